use Rattle.hn_base.proofs.Names.{◌≡◌, sym, subst, All, All-nil, Took}
use Rattle.hn_router.proofs.Names.{Done, State, nothing, after_passing, IsNextDue, plain_event, PlainEvent, Tick, Happened, IsShortSend}
use Rattle.hn_router.proofs.Keeping.{next_known}
use Rattle.hn_router.proofs.router.Router.act.Goals as goal

pub returns-then-now-due_at-clause-happened : goal.returns-then-now-due_at-clause-happened
returns-then-now-due_at-clause-happened g c =
    let now = c.args.now in
    let s = c.args.self.now in
    let tick : plain_event c.args.event.now ≡ Tick = c.is_tick.ensures.0 c.if-is_tick.true in
    let done : Happened now Tick s c.pass.new.self c.new.result = subst (λ (d : Done). Happened now Tick s c.pass.new.self d) (sym c.new.ensures) c.pass.ensures.happened in
    subst (λ (e : PlainEvent). Happened now e s c.pass.new.self c.new.result) (sym tick) done

pub returns-clause-drew : goal.returns-clause-drew
returns-clause-drew g c =
    subst (λ (d : Done). Took (g.D.Draw.words c.args.draw.now) d.words (g.D.Draw.words c.plan.new.draw)) (sym c.commit.ensures.done) c.in_ok-plan.ensures.drew

pub returns-clause-next : goal.returns-clause-next
returns-clause-next g c = λ tick idle.
    let p = c.in_ok-plan.plan in
    let happened : Happened c.args.now Tick c.args.self.now p.state p.done = subst (λ (e : PlainEvent). Happened c.args.now e c.args.self.now p.state p.done) tick c.in_ok-plan.ensures.happened in
    subst (λ (x : State). IsNextDue x x.due) (sym c.commit.ensures.router) (next_known c.rules_have_one_result.ensures.tick c.args.now c.args.self.now p.state p.done happened idle)

pub returns-then-now-due_at-clause-short : goal.returns-then-now-due_at-clause-short
returns-then-now-due_at-clause-short g c = subst (λ (d : Done). All IsShortSend d.sends) (sym c.new.ensures) (All-nil IsShortSend)

pub returns-clause-short : goal.returns-clause-short
returns-clause-short g c = subst (λ (d : Done). All IsShortSend d.sends) (sym c.commit.ensures.done) c.in_ok-plan.ensures.short

pub returns-in-Some-clause-next : goal.returns-in-Some-clause-next
returns-in-Some-clause-next g c = λ tick idle.
    let next = after_passing c.in-Some.passing c.args.now c.args.self.now in
    let happened : Happened c.args.now Tick c.args.self.now next nothing =
    subst (λ (e : PlainEvent). Happened c.args.now e c.args.self.now next nothing) tick c.in-Some.ensures.happened in
    subst (λ (x : State). IsNextDue x x.due) (sym c.in_ok-let_pass.ensures.ok)
    (next_known c.rules_have_one_result.ensures.tick c.args.now c.args.self.now next nothing happened idle)
