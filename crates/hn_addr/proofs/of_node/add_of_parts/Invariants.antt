use Rattle.hn_base.proofs.Names.{take}
use Rattle.hn_addr.proofs.GrownByEach.{IsGrownByEach}
use Rattle.hn_addr.proofs.of_node.add_of_parts.Given as goal

abbrev pub invariant-loop-part : goal.invariant-loop-part
invariant-loop-part g l = IsGrownByEach (g.T.OfNode.makes l.node) l.initial.list.items l.list.items (take l.part-index l.parts)
