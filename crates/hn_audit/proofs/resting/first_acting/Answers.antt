use Rattle.hn_base.proofs.Names.{None, subst, arith, Bor}
use Rattle.hn_audit.proofs.Names.{Member, FindsOfRouter}
use Rattle.hn_audit.proofs.Searching.{member_found, no_member_found, none_more}
use Rattle.hn_audit.proofs.resting.first_acting.Goals as goal

pub returns-in-Some : goal.returns-in-Some
returns-in-Some c =
    let here = subst (FindsOfRouter c.s-item.result.now) c.in-Some.is c.in_ok-found.ensures in
    member_found FindsOfRouter c.args.set.now c.loop-s.s-index c.loop-s.invariant c.s-item.result _ c.loop-s-test.true c.s-item.is here

pub loop-s-preserved : goal.loop-s-preserved
loop-s-preserved c =
    let none : Bor Member → Type 0 = λ s. FindsOfRouter s.now None in
    let here = subst (FindsOfRouter c.s-item.result.now) c.in_default.is c.in_ok-found.ensures in
    none_more none c.args.set.now c.loop-s.s-index c.s-item.result c.s-item.result c.loop-s.invariant c.loop-s-test.true c.s-item.is here

pub returns : goal.returns
returns c = no_member_found FindsOfRouter c.args.set.now c.loop-s.s-index c.loop-s.invariant (omega (arith, c.loop-s-test.false))
