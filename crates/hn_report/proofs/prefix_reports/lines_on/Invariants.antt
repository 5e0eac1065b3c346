use Rattle.hn_base.proofs.Names.{◌≡◌, ◌++◌, [], ◌∷◌, length, take, decimal, name_text}
use Rattle.hn_report.proofs.Names.{map, codes}
use Rattle.hn_report.specs.PrefixReports.{use_line}
use Rattle.hn_report.proofs.prefix_reports.lines_on.Given as goal

-- the first line, and one for each delegated prefix so far
abbrev pub invariant-loop-d : goal.invariant-loop-d
invariant-loop-d l =
    l.lines ≡ (codes "used " ++ name_text l.name ++ codes " " ++ decimal (length l.used) ++ 10 ∷ []) ∷ map (use_line l.name) (take l.d-index l.used)
