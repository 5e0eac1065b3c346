use Rattle.hn_base.proofs.Names.{◌≡◌, ◌++◌, take}
use Rattle.hn_report.proofs.Names.{map, prefix_line}
use Rattle.hn_report.proofs.prefix_reports.add_prefix_lines.Given as goal

-- the assignments so far have a line each
abbrev pub invariant-loop-c : goal.invariant-loop-c
invariant-loop-c l = l.lines ≡ l.fn.lines ++ map (prefix_line l.name) (take l.c-index l.assigned)
