use Rattle.hn_base.proofs.Names.{◌≡◌, take, string_bytes}
use Rattle.hn_table.proofs.Names.{delegated_line, InOrder, Adds, Unreachable}
use Rattle.hn_table.proofs.delegated_lines.push_unseen.Given as goal

-- those so far have a line each
abbrev pub invariant-loop-d : goal.invariant-loop-d
invariant-loop-d l = Adds (InOrder (λ d line. line ≡ delegated_line l.node.id d Unreachable) (take l.d-index l.d-items)) (string_bytes l.fn.text) (string_bytes l.text)
