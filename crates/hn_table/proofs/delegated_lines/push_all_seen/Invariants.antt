use Rattle.hn_base.proofs.Names.{take, string_bytes}
use Rattle.hn_table.proofs.Names.{plain_view, AreSeenLines, InOrder, Adds}
use Rattle.hn_table.proofs.delegated_lines.push_all_seen.Given as goal

-- those of the nodes so far have their lines
abbrev pub invariant-loop-node : goal.invariant-loop-node
invariant-loop-node l = Adds (InOrder (AreSeenLines (plain_view l.view) l.used) (take l.node-index l.node-items)) (string_bytes l.fn.text) (string_bytes l.text)
