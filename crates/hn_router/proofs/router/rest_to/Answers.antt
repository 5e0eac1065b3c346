use Rattle.hn_base.proofs.Names.{sym, subst}
use Rattle.hn_router.proofs.Names.{Running, at_moment, Tick, Happened, IsNextDue}
use Rattle.hn_rules.specs.Due.{IsUndueUntil}
use Rattle.hn_router.proofs.Keeping.{rested}
use Rattle.hn_router.proofs.router.rest_to.Goals as goal

pub next_due_from-requires : goal.next_due_from-requires
next_due_from-requires c = subst (λ (r : Running). IsUndueUntil c.args.until r.state) (sym c.in_ok-next.ensures) c.requires.undue

pub returns-clause-happened : goal.returns-clause-happened
returns-clause-happened c =
    let now = c.args.now in
    let s = c.args.state.now in
    let due = c.in_ok-due.due in
    let next : IsNextDue (at_moment now s) due = subst (λ (r : Running). IsNextDue r.state due) c.in_ok-next.ensures c.in_ok-due.ensures in
    subst (λ (r : Running). Happened now Tick s (record r.state { due = due }) r.done) (sym c.in_ok-next.ensures) (rested now due s c.requires.idle next)
