-- There is a first free prefix, or each is taken.
use Rattle.hn_base.proofs.Names.{ℕ, List, get_or, Option, None, Some, refl, le_refl, Contains-get_or, PlainPrefix, Some! }
use Rattle.hn_prefix.proofs.Names.{sub_prefix_count, sub_prefix_after, IsFree, IsTakenPrefix}
use Rattle.hn_prefix.specs.Laws.{FreeOrFull, IsFirstFreeIfAny}
use Rattle.hn_prefix.proofs.PlaceAfterStart.{whole_round}
use Rattle.hn_base.proofs.SomeExists.{IsFirstIfAny, some_then, some_first}

free_or_taken : (taken : List PlainPrefix) (p : PlainPrefix) → ¬ (IsFree taken p) → ¬ (IsTakenPrefix taken p) → ⊥
free_or_taken taken p not_free not_taken =
    not_free (λ k d within overlaps. let there = Contains-get_or taken k d within in not_taken (there.0, get_or taken k d, there.1, there.2, overlaps))

module _ (outer : PlainPrefix) (start : ℕ) (taken : List PlainPrefix) (len : ℕ) where
  abbrev free_at : ℕ → Type 0
  free_at j = IsFree taken (sub_prefix_after outer len start j)

  abbrev taken_at : ℕ → Type 0
  taken_at j = IsTakenPrefix taken (sub_prefix_after outer len start j)

  by_first : (o : Option ℕ) → IsFirstIfAny free_at taken_at (sub_prefix_count outer len) o → Some! (IsFirstFreeIfAny outer start taken len)
  by_first None all none = none None (whole_round taken outer len start (sub_prefix_count outer len) (le_refl (sub_prefix_count outer len)) (record { taken_at = all }))
  by_first (Some k) first none = none (Some (sub_prefix_after outer len start k)) (record { ahead = k; below_count = first.0; at_place = refl; free = first.1; each_before_taken = first.2 })

pub free_or_full : FreeOrFull
free_or_full outer start taken len =
    let either : (j : ℕ) → ¬ (free_at outer start taken len j) → ¬ (taken_at outer start taken len j) → ⊥ = λ j. free_or_taken taken (sub_prefix_after outer len start j) in
    some_then (some_first (free_at outer start taken len) (taken_at outer start taken len) either (sub_prefix_count outer len)) (by_first outer start taken len)
