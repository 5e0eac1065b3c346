-- The lines of bytes, cut at their first LF.
use Rattle.hn_base.proofs.Names.{◌<◌, [], ◌∷◌, length, arith, ap, sym, ◌∙◌, refl, nat_tests}
use Rattle.hn_script.proofs.Pieces.{lines_none, lines_last, lines_cut}
use Rattle.hn_script.proofs.texts.next_line.Goals as goal

pub returns-then-is_empty-clause-none : goal.returns-then-is_empty-clause-none
returns-then-is_empty-clause-none c = lines_none c.args.bytes.now (grind (arith, nat_tests))

pub returns-in-Some-clause-found : goal.returns-in-Some-clause-found
returns-in-Some-clause-found c =
    let cut = c.in-Some.ensures.found in
    lines_cut c.args.bytes.now _ _ cut.first cut.parts

pub returns-in-None-clause-found : goal.returns-in-None-clause-found
returns-in-None-clause-found c =
    let some : 0 < length c.args.bytes.now = grind (arith, nat_tests) in
    lines_last c.args.bytes.now some c.in-None.ensures.none ∙ ap (λ found. c.args.bytes.now ∷ found) (sym (lines_none [] refl))
