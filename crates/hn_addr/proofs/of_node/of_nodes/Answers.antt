use Rattle.hn_base.proofs.Names.{◌≡◌, refl, length, Some, slice_get, subst, [], take_all, slice_get_read}
use Rattle.hn_addr.proofs.Names.{IsOfNode}
use Rattle.hn_addr.proofs.GrownByEach.{IsGrownByEach, grown_at_first, grown_next, grown_from_none}
use Rattle.hn_addr.proofs.of_node.of_nodes.Goals as goal

pub loop-node-init : goal.loop-node-init
loop-node-init g c = rw c.new-list.ensures.items (grown_at_first (IsOfNode g.T.OfNode.says g.T.OfNode.makes) [])

pub loop-node-preserved : goal.loop-node-preserved
loop-node-preserved g c =
    let nodes = c.args.nodes.now in
    let n = c.loop-node.node-index in
    let node = c.node-item.result in
    let at : slice_get nodes n ≡ Some node = slice_get_read nodes (length nodes) n node refl c.loop-node-test.true c.node-item.is in
    grown_next (IsOfNode g.T.OfNode.says g.T.OfNode.makes) [] c.loop-node.list.items c.add_of_node.new.list.items nodes n node at c.loop-node.invariant
    c.in_ok-add_of_node.ensures

pub returns : goal.returns
returns g c =
    let is_of = IsOfNode g.T.OfNode.says g.T.OfNode.makes in
    grown_from_none is_of c.loop-node.list.items c.args.nodes.now
    (subst (IsGrownByEach is_of [] c.loop-node.list.items) (take_all c.loop-node.node-index c.args.nodes.now c.loop-node-test.false) c.loop-node.invariant)
