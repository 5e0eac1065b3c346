use Rattle.hn_base.proofs.Names.{None, arith, Bor}
use Rattle.hn_audit.proofs.Names.{Member, FindsOfPeers, members_of}
use Rattle.hn_audit.proofs.Searching.{member_found, no_member_found, none_more}
use Rattle.hn_audit.proofs.spots.first_untrue.Goals as goal

pub returns-in-Some : goal.returns-in-Some
returns-in-Some c =
    member_found (FindsOfPeers (members_of c.args.set.now)) c.args.set.now c.loop-s.s-index c.loop-s.invariant c.s-item.result _ c.loop-s-test.true c.s-item.is c.in-Some.ensures

pub loop-s-preserved : goal.loop-s-preserved
loop-s-preserved c =
    let none : Bor Member → Type 0 = λ s. FindsOfPeers (members_of c.args.set.now) s.now None in
    none_more none c.args.set.now c.loop-s.s-index c.s-item.result c.s-item.result c.loop-s.invariant c.loop-s-test.true c.s-item.is c.in_default.ensures

pub returns : goal.returns
returns c =
    no_member_found (FindsOfPeers (members_of c.args.set.now)) c.args.set.now c.loop-s.s-index c.loop-s.invariant (omega (arith, c.loop-s-test.false))
