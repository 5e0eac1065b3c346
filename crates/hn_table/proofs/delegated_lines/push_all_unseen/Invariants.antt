use Rattle.hn_base.proofs.Names.{take, string_bytes}
use Rattle.hn_table.proofs.Names.{not, filter, is_among, AreUnseenLines, InOrder, Adds}
use Rattle.hn_table.proofs.delegated_lines.push_all_unseen.Given as goal

-- those of the nodes so far have their lines
abbrev pub invariant-loop-node : goal.invariant-loop-node
invariant-loop-node l = Adds (InOrder AreUnseenLines (filter (λ node. not (is_among l.reach node.id.0)) (take l.node-index l.nodes))) (string_bytes l.fn.text) (string_bytes l.text)
