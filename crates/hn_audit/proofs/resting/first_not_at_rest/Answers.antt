use Rattle.hn_base.proofs.Names.{None, arith}
use Rattle.hn_audit.proofs.Names.{Wish, FindsNotAtRest}
use Rattle.hn_audit.proofs.Searching.{found_nowhere, none_more}
use Rattle.hn_audit.proofs.resting.first_not_at_rest.Goals as goal

pub loop-wish-preserved : goal.loop-wish-preserved
loop-wish-preserved c =
    let s = c.args.s.now in
    let none : Wish → Type 0 = λ wish. FindsNotAtRest s.name c.args.known.now s.router.id.0 s.router.held.assigned wish None in
    none_more none c.args.wishes.now c.loop-wish.wish-index c.wish-item.result _ c.loop-wish.invariant c.loop-wish-test.true c.wish-item.is c.in_default.ensures

pub returns : goal.returns
returns c =
    let s = c.args.s.now in
    found_nowhere (FindsNotAtRest s.name c.args.known.now s.router.id.0 s.router.held.assigned) c.args.wishes.now c.loop-wish.wish-index c.loop-wish.invariant (omega (arith, c.loop-wish-test.false))
