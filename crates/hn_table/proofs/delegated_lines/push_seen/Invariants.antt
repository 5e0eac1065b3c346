use Rattle.hn_base.proofs.Names.{take, string_bytes}
use Rattle.hn_table.proofs.Names.{plain_view, IsFateLine, InOrder, Adds}
use Rattle.hn_table.proofs.delegated_lines.push_seen.Given as goal

-- those so far have a line each
abbrev pub invariant-loop-d : goal.invariant-loop-d
invariant-loop-d l = Adds (InOrder (IsFateLine (plain_view l.view) l.used l.node) (take l.d-index l.d-items)) (string_bytes l.fn.text) (string_bytes l.text)
