-- The lines so far are printed.
use Rattle.hn_base.proofs.Names.{◌≡◌, ◌∷◌, ℕ, map, take, string_bytes}
use Rattle.hn_script.proofs.Names.{line_text, ended, first_line, Line}
use Rattle.hn_script.proofs.script.print.Given as goal

abbrev pub invariant-loop-line : goal.invariant-loop-line
invariant-loop-line l =
    string_bytes l.text ≡ ended (first_line l.script.version ∷ map (λ (line : ℕ × Line). line_text line.1) (take l.line-index l.line-items))
