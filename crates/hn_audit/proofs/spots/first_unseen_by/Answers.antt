use Rattle.hn_base.proofs.Names.{rules, None, refl, arith}
use Rattle.hn_audit.proofs.Names.{Spot, FindsUnseen, IsSeenPair, plain_spot}
use Rattle.hn_audit.specs.FirstWitness.{IsUnseenPair}
use Rattle.hn_audit.proofs.Searching.{no_spot_found, none_more, spot_found}
use Rattle.hn_audit.proofs.spots.first_unseen_by.Goals as goal

pub returns-then-not-is_seen : goal.returns-then-not-is_seen
returns-then-not-is_seen c =
    let a = plain_spot c.args.a.now in
    let b = plain_spot c.b-item.result in
    let unseen : IsUnseenPair a b = search rules in
    spot_found (FindsUnseen a) c.args.spots.now c.loop-b.b-index c.loop-b.invariant c.b-item.result _ c.loop-b-test.true c.b-item.is (refl, unseen)

pub loop-b-preserved : goal.loop-b-preserved
loop-b-preserved c =
    let none : Spot → Type 0 = λ b. FindsUnseen (plain_spot c.args.a.now) (plain_spot b) None in
    let here : IsSeenPair (plain_spot c.args.a.now) (plain_spot c.b-item.result) = search rules in
    none_more none c.args.spots.now c.loop-b.b-index c.b-item.result c.b-item.result c.loop-b.invariant c.loop-b-test.true c.b-item.is here

pub returns : goal.returns
returns c = no_spot_found (FindsUnseen (plain_spot c.args.a.now)) c.args.spots.now c.loop-b.b-index c.loop-b.invariant (omega (arith, c.loop-b-test.false))
