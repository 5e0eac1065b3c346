use Rattle.hn_base.proofs.Names.{None, Option, arith}
use Rattle.hn_audit.proofs.Names.{Spot, Unsettled, IsFirstFound, FindsUnseen, PlainSpot, plain_spot, plain_spots}
use Rattle.hn_audit.proofs.Searching.{no_spot_found, none_more, spot_found}
use Rattle.hn_audit.proofs.spots.first_unseen.Goals as goal

pub returns-in-Some : goal.returns-in-Some
returns-in-Some c =
    let finds : PlainSpot → Option Unsettled → Type 0 = λ a. IsFirstFound (FindsUnseen a) (plain_spots c.args.spots.now) in
    spot_found finds c.args.spots.now c.loop-a.a-index c.loop-a.invariant c.a-item.result _ c.loop-a-test.true c.a-item.is c.in-Some.ensures

pub loop-a-preserved : goal.loop-a-preserved
loop-a-preserved c =
    let none : Spot → Type 0 = λ a. IsFirstFound (FindsUnseen (plain_spot a)) (plain_spots c.args.spots.now) None in
    none_more none c.args.spots.now c.loop-a.a-index c.a-item.result c.a-item.result c.loop-a.invariant c.loop-a-test.true c.a-item.is c.in_default.ensures

pub returns : goal.returns
returns c =
    let finds : PlainSpot → Option Unsettled → Type 0 = λ a. IsFirstFound (FindsUnseen a) (plain_spots c.args.spots.now) in
    no_spot_found finds c.args.spots.now c.loop-a.a-index c.loop-a.invariant (omega (arith, c.loop-a-test.false))
