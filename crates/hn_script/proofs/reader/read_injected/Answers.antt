-- The words after `inject`: each that writes no value of its kind is a fault of the line.
use Rattle.hn_base.proofs.Names.{◌≡◌, ℕ, ◌<◌, List, length, codes, inl, inr, refl, subst, err_from_is_err_and, AllByRecursion, AllZip}
use Rattle.hn_script.proofs.Names.{EpId, Name, How, FirstWordFault, line_spelling, every_line, Inject, IsField}
use Rattle.hn_script.proofs.LineWords.{word_fault, inject_lines, inject_follows}
use Rattle.hn_script.proofs.Pieces.{words_some}
use Rattle.hn_script.proofs.reader.read_injected.Goals as goal

-- four words that spell no such line
bad_word : (words : List (List ℕ)) (code : ℕ) → length words ≡ 4
    → ((v : Name × EpId × How × List ℕ) → ¬ AllZip IsField (line_spelling (Inject v.0 v.1 v.2 v.3)).fields words) → code ≡ 4
    → FirstWordFault every_line (codes "inject") words code
bad_word words code counted none is =
    word_fault inject_lines 4 _ (λ _. refl) inject_follows (codes "inject") (inl refl) words code (inr (λ differ. differ counted, inl (none, is)))

pub returns-in_default : goal.returns-in_default
returns-in_default c = word_fault inject_lines 4 _ (λ _. refl) inject_follows (codes "inject") (inl refl) _ 3 (inl (c.in_default.ensures.none, refl))

pub returns-in_err-name : goal.returns-in_err-name
returns-in_err-name c =
    let exit = err_from_is_err_and c.from_residual.result c.from_residual.ensures.1 in
    let bad = c.in_err-name.ensures in
    rw (exit.1, exit.2, c.in-Some.ensures.found) (bad_word _ _ refl (λ values all. bad.1 values.0 all.0) bad.0)

pub returns-in_err-endpoint : goal.returns-in_err-endpoint
returns-in_err-endpoint c =
    let exit = err_from_is_err_and c.from_residual-in_err-endpoint.result c.from_residual-in_err-endpoint.ensures.1 in
    let bad = c.in_err-endpoint.ensures in
    rw (exit.1, exit.2, c.in-Some.ensures.found) (bad_word _ _ refl (λ values all. bad.1 values.1 all.1.0) bad.0)

pub returns-in_err-way : goal.returns-in_err-way
returns-in_err-way c =
    let exit = err_from_is_err_and c.from_residual-in_err-way.result c.from_residual-in_err-way.ensures.1 in
    let bad = c.in_err-way.ensures in
    rw (exit.1, exit.2, c.in-Some.ensures.found) (bad_word _ _ refl (λ values all. bad.1 values.2 all.1.1.0) bad.0)

pub returns-in_err-digits : goal.returns-in_err-digits
returns-in_err-digits c =
    let exit = err_from_is_err_and c.from_residual-in_err-digits.result c.from_residual-in_err-digits.ensures.1 in
    let bad = c.in_err-digits.ensures in
    rw (exit.1, exit.2, c.in-Some.ensures.found) (bad_word _ _ refl (λ values all. bad.refused.1 values.3 all.1.1.1.0) bad.refused.0)

pub digits-requires : goal.digits-requires
digits-requires c =
    let some = subst (AllByRecursion (λ word. 0 < length word)) c.in-Some.ensures.found (words_some c.args.rest.now) in
    some.1.1.1.0

pub returns : goal.returns
returns c =
    let found = c.in_ok-digits.ensures.found in
    let name = c.in_ok-name.field-0 in
    let e = c.in_ok-endpoint.field-0 in
    let how = c.in_ok-way.field-0 in (
      (Inject name e how found.1, (found.1, rw found.0 found.2, refl)),
      λ line drafted. rw (drafted.2, c.in-Some.ensures.found)
          (tt, refl, (c.in_ok-name.ensures, (c.in_ok-endpoint.ensures, (c.in_ok-way.ensures, (rw found.0 at drafted.1, tt))))),
    )
