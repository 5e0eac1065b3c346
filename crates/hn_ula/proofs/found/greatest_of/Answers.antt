use Rattle.hn_base.proofs.Names.{◌≡◌, refl, sym, ap, length, Some, slice_get, subst, List, eqb-true, eqb-false, take_all, slice_get_read}
use Rattle.hn_ula.proofs.Names.{NodeId, IsGreatestFound, Generated}
use Rattle.hn_base.proofs.Keys.{same_node}
use Rattle.hn_ula.proofs.GreatestOfNode.{found_none, passed_next, taken_next}
use Rattle.hn_ula.proofs.found.greatest_of.Goals as goal
use Rattle.hn_ula.proofs.found.greatest_of.Goals.{then-eq, else-eq}

pub loop-one-init : goal.loop-one-init
loop-one-init c = found_none c.args.node

pub loop-one-preserved : goal.loop-one-preserved
loop-one-preserved c =
    let list = c.args.list.now in
    let n = c.loop-one.one-index in
    let one = c.one-item.result in
    let node = c.args.node in
    let at : slice_get list n ≡ Some one = slice_get_read list (length list) n one refl c.loop-one-test.true c.one-item.is in
    elim c.if-eq.branch [
      | then-eq w ↦ rw w.greatest-is
          (taken_next list n one node c.loop-one.greatest w.greater.result at (same_node one.node node (eqb-true one.node.0 node.0 (sym w.if-eq.ensures))) w.greater.ensures c.loop-one.invariant)
      | else-eq w ↦ rw w.greatest-is
          (passed_next list n one node c.loop-one.greatest at (λ same. eqb-false one.node.0 node.0 (sym w.if-eq.ensures) (ap (λ (id : NodeId). id.0) same)) c.loop-one.invariant)
    ]

pub returns : goal.returns
returns c =
    subst (λ (l : List Generated). IsGreatestFound l c.args.node c.loop-one.greatest) (take_all c.loop-one.one-index c.args.list.now c.loop-one-test.false) c.loop-one.invariant
