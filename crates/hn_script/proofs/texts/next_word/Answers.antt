-- The words of a text, cut at its first space.
use Rattle.hn_base.proofs.Names.{◌≡◌, ◌<◌, [], ◌∷◌, length, arith, ap, sym, ◌∙◌, refl, nat_tests}
use Rattle.hn_script.proofs.Pieces.{words_none, words_last, words_cut, words_gap}
use Rattle.hn_script.proofs.texts.next_word.Goals as goal

pub returns-then-not-is_empty-clause-found : goal.returns-then-not-is_empty-clause-found
returns-then-not-is_empty-clause-found c =
    let cut = c.in-Some.ensures.found in
    let some : 0 < length c.in-Some.piece.now = grind (arith, nat_tests) in
    c.loop-piece.invariant ∙ words_cut c.loop-piece.rest.now _ _ some cut.first cut.parts

pub loop-piece-preserved : goal.loop-piece-preserved
loop-piece-preserved c =
    let cut = c.in-Some.ensures.found in
    let none : length c.in-Some.piece.now ≡ 0 = grind (arith, nat_tests) in
    c.loop-piece.invariant ∙ words_gap c.loop-piece.rest.now _ _ none cut.parts

pub returns-then-is_empty-clause-none : goal.returns-then-is_empty-clause-none
returns-then-is_empty-clause-none c =
    let none : length c.loop-piece.rest.now ≡ 0 = grind (arith, nat_tests) in
    c.loop-piece.invariant ∙ words_none c.loop-piece.rest.now none

pub returns-clause-found : goal.returns-clause-found
returns-clause-found c =
    let some : 0 < length c.loop-piece.rest.now = grind (arith, nat_tests) in
    c.loop-piece.invariant ∙ words_last c.loop-piece.rest.now some c.in_default.ensures.none
    ∙ ap (λ found. c.loop-piece.rest.now ∷ found) (sym (words_none [] refl))
