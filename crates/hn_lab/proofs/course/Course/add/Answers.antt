use Rattle.hn_base.proofs.Names.{◌∙◌, ℕ, List, [], ◌∷◌, ◌++◌, ap}
use Rattle.hn_lab.proofs.Names.{Version, Line, Script}
use Rattle.hn_lab.specs.Course.{script_of}
use Rattle.hn_lab.proofs.OpenPlays.{kept_more}
use Rattle.hn_lab.proofs.course.Course.add.Goals as goal

-- a script of a version with these lines
abbrev script_with : Version → List (ℕ × Line) → Script
script_with version lines = record { version = version; lines = lines }

pub returns-clause-kept : goal.returns-clause-kept
returns-clause-kept c =
    let s = c.args.self.now in
    kept_more c.lines_are_added.ensures.goes_on (script_of s) (script_with s.version c.push_reserved.new.self.items) s.source.items c.args.text.now c.push_reserved-2.new.self.items
    c.args.line c.requires.kept c.requires.entry c.requires.fits
    (ap (script_with s.version) (c.push_reserved.ensures.items ∙ ap (λ (n : ℕ). s.lines.items ++ (n, c.args.line) ∷ []) c.next_number-number.ensures))
    (c.push_reserved-2.ensures.items ∙ ap (λ (b : List ℕ). b ++ 10 ∷ []) c.in-Ok.ensures.items)
