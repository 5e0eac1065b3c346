-- The first free prefix from the place of a free one is that one.
use Rattle.hn_base.proofs.Names.{◌≡◌, ℕ, zero, suc, ◌+◌, ◌%◌, ◌<◌, arith, ap, ◌∙◌, subst, List, mod-eq_of_lt, PlainPrefix}
use Rattle.hn_prefix.proofs.Names.{sub_prefix, sub_prefix_count, sub_prefix_after, IsFree, IsTakenPrefix}
use Rattle.hn_prefix.specs.Laws.{PlaceIsFirst}
use Rattle.hn_prefix.proofs.PlaceAfterStart.{not_both}

at_start : (outer : PlainPrefix) (place len : ℕ) → place < sub_prefix_count outer len → sub_prefix_after outer len place 0 ≡ sub_prefix outer len place
at_start outer place len below =
    let none : place + 0 ≡ place = omega arith in
    ap (sub_prefix outer len) (ap (λ n. n % sub_prefix_count outer len) none ∙ mod-eq_of_lt below)

by_ahead : (outer : PlainPrefix) (place : ℕ) (taken : List PlainPrefix) (len : ℕ) (found : PlainPrefix) (ahead : ℕ)
    → place < sub_prefix_count outer len → IsFree taken (sub_prefix outer len place) → found ≡ sub_prefix_after outer len place ahead
    → ((j : ℕ) → j < ahead → IsTakenPrefix taken (sub_prefix_after outer len place j)) → found ≡ sub_prefix outer len place
by_ahead outer place taken len found zero below free is before = is ∙ at_start outer place len below
by_ahead outer place taken len found (suc n) below free is before =
    absurd (not_both taken (sub_prefix outer len place) free (subst (IsTakenPrefix taken) (at_start outer place len below) (before 0 (omega arith))))

pub place_is_first : PlaceIsFirst
place_is_first outer place taken len found below free first =
    by_ahead outer place taken len found first.ahead below free first.at_place first.each_before_taken
