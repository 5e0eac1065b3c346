use Rattle.hn_base.proofs.Names.{List, get_or, refl, subst, false≢true, take_all, slice_get-get_or}
use Rattle.hn_addr.proofs.Names.{OwnAddress, IsLeastFound}
use Rattle.hn_addr.proofs.LeastOwnAddress.{least_none, passed_next, taken_next}
use Rattle.hn_addr.proofs.stays.least_own.Goals as goal
use Rattle.hn_addr.proofs.stays.least_own.Goals.{then-is_own_inside, else-is_own_inside}

pub loop-a-init : goal.loop-a-init
loop-a-init c = least_none c.args.c.now

pub loop-a-preserved : goal.loop-a-preserved
loop-a-preserved c =
    let own = c.args.own.now in
    let n = c.loop-a.a-index in
    let none : OwnAddress = (record { 0 = 0 }, 0) in
    let a : OwnAddress = get_or own n none in
    let at = slice_get-get_or own n none c.loop-a-test.true in
    elim c.if-is_own_inside.branch [
      | then-is_own_inside w ↦ rw w.least-is (taken_next own n a c.args.c.now c.loop-a.least w.lesser.result at (w.if-is_own_inside.ensures.0 refl) w.lesser.ensures c.loop-a.invariant)
      | else-is_own_inside w ↦ rw w.least-is (passed_next own n a c.args.c.now c.loop-a.least at (λ is. false≢true (w.if-is_own_inside.ensures.1 is)) c.loop-a.invariant)
    ]

pub returns : goal.returns
returns c =
    subst (λ (l : List OwnAddress). IsLeastFound l c.args.c.now c.loop-a.least) (take_all c.loop-a.a-index c.args.own.now c.loop-a-test.false) c.loop-a.invariant
