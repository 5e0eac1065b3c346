use Rattle.hn_base.proofs.Names.{rules, None, refl, arith, Bor}
use Rattle.hn_audit.proofs.Names.{Member, FindsUntrue, IsTrueOf}
use Rattle.hn_audit.specs.FirstWitness.{IsUntrueOf}
use Rattle.hn_audit.proofs.Searching.{member_found, no_member_found, none_more}
use Rattle.hn_audit.proofs.spots.first_untrue_of.Goals as goal

pub returns-then-not-is_true_of : goal.returns-then-not-is_true_of
returns-then-not-is_true_of c =
    let s = c.args.s.now in
    let peer = c.args.peer.now in
    let untrue : IsUntrueOf s peer c.u-item.result.now = search rules in
    member_found (FindsUntrue s peer) c.args.set.now c.loop-u.u-index c.loop-u.invariant c.u-item.result _ c.loop-u-test.true c.u-item.is (refl, untrue)

pub loop-u-preserved : goal.loop-u-preserved
loop-u-preserved c =
    let none : Bor Member → Type 0 = λ u. FindsUntrue c.args.s.now c.args.peer.now u.now None in
    let here : IsTrueOf c.args.s.now c.args.peer.now c.u-item.result.now = search rules in
    none_more none c.args.set.now c.loop-u.u-index c.u-item.result c.u-item.result c.loop-u.invariant c.loop-u-test.true c.u-item.is here

pub returns : goal.returns
returns c =
    no_member_found (FindsUntrue c.args.s.now c.args.peer.now) c.args.set.now c.loop-u.u-index c.loop-u.invariant (omega (arith, c.loop-u-test.false))
