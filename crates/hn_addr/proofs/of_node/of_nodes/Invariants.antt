use Rattle.hn_base.proofs.Names.{take, []}
use Rattle.hn_addr.proofs.Names.{IsOfNode}
use Rattle.hn_addr.proofs.GrownByEach.{IsGrownByEach}
use Rattle.hn_addr.proofs.of_node.of_nodes.Given as goal

abbrev pub invariant-loop-node : goal.invariant-loop-node
invariant-loop-node g l = IsGrownByEach (IsOfNode g.T.OfNode.says g.T.OfNode.makes) [] l.list.items (take l.node-index l.nodes)
