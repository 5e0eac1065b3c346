use Rattle.hn_base.proofs.Names.{◌≡◌, ◌++◌, take, string_bytes, flat_map}
use Rattle.hn_table.proofs.Names.{assigned_line}
use Rattle.hn_table.proofs.assignment_lines.push_assignments.Given as goal

-- those so far have a line each
abbrev pub invariant-loop-one : goal.invariant-loop-one
invariant-loop-one l = string_bytes l.text ≡ string_bytes l.fn.text ++ flat_map assigned_line (take l.one-index l.assigned)
