use Rattle.hn_base.proofs.Names.{take, string_bytes}
use Rattle.hn_table.proofs.Names.{IsDataText, InOrder, Adds}
use Rattle.hn_table.proofs.data_lines.push_all_data.Given as goal

-- those of the nodes so far were added
abbrev pub invariant-loop-node : goal.invariant-loop-node
invariant-loop-node l = Adds (InOrder (λ node. IsDataText node.id node.stored.body) (take l.node-index l.nodes)) (string_bytes l.fn.text) (string_bytes l.text)
