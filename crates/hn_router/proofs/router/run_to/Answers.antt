use Rattle.hn_base.proofs.Names.{◌≡◌, subst, sym}
use Rattle.hn_router.proofs.Names.{Happened, PlainEvent, Tick, plain_event}
use Rattle.hn_router.proofs.Keeping.{undue_later}
use Rattle.hn_router.proofs.Planning.{has_happened}
use Rattle.hn_router.proofs.router.run_to.Goals as goal

pub returns-in-Ok-clause-happened : goal.returns-in-Ok-clause-happened
returns-in-Ok-clause-happened g c =
    has_happened c.args.now (plain_event c.args.event.now) c.args.state.now c.run_and_find_due.new.next c.in-Ok.due c.in-Ok.ensures.ran c.in-Ok.ensures.due

pub rest_to-requires-clause-idle : goal.rest_to-requires-clause-idle
rest_to-requires-clause-idle g c =
    (undue_later c.idle_while_undue.ensures c.args.now c.args.until c.args.state.now c.requires.router c.requires.undue c.requires.not_before c.if-now-until.true).0

pub rest_to-requires-clause-undue : goal.rest_to-requires-clause-undue
rest_to-requires-clause-undue g c =
    (undue_later c.idle_while_undue.ensures c.args.now c.args.until c.args.state.now c.requires.router c.requires.undue c.requires.not_before c.if-now-until.true).1

pub returns-then-now-until-clause-happened : goal.returns-then-now-until-clause-happened
returns-then-now-until-clause-happened g c =
    let tick : plain_event c.args.event.now ≡ Tick = c.is_tick.ensures.0 c.if-is_tick.true in
    subst (λ (e : PlainEvent). Happened c.args.now e c.args.state.now c.in_ok-state.state c.in_ok-state.done) (sym tick) c.in_ok-state.ensures.happened
