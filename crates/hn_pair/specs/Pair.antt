-- Pairs of a delegated prefix and an endpoint, and what lists have for them.
use Rattle.std.specs.Prelude.{◌≡◌, ◌↔◌, ℕ, ◌<◌, ◌≤◌, List, length, Contains, Option, Result, Ok, Err}
use Rattle.std.specs.declared.cmp.Ordering.{Ordering}
use Rattle.std.specs.declared.cmp.Ordering.TheVariants.{Less, Greater}
use Rattle.std.specs.Ordering.{on, then_cmp, nat_cmp}
use Rattle.std.specs.List.{HoldsAt}
use Rattle.std.specs.List.Sorted.{IsStrictlySortedBy, IsPartitionPoint}
use Rattle.hn_base.specs.Ascending.{HasAt}
use Rattle.hn_base.specs.Prefix.{prefix_cmp}
use Rattle.hn_pair.specs.declared.assigned.Assigned.{Assigned}
use Rattle.hn_pair.specs.declared.assigned.Wish.{Wish}
use Rattle.hn_pair.specs.declared.backoff.Backoff.{Backoff}
use Rattle.hn_pair.specs.declared.pair.Pair.{Pair}

-- pairs in order: by their delegated prefix, then their endpoint
abbrev pub pair_cmp : Pair → Pair → Ordering
pair_cmp = then_cmp (on (λ p. p.delegated) prefix_cmp) (on (λ p. p.endpoint.0) nat_cmp)

-- the pair that an assignment, a backoff or a wish is for
abbrev pub assigned_pair : Assigned → Pair
assigned_pair c = record { delegated = c.delegated; endpoint = c.endpoint }

abbrev pub backoff_pair : Backoff → Pair
backoff_pair b = record { delegated = b.delegated; endpoint = b.endpoint }

abbrev pub wish_pair : Wish → Pair
wish_pair w = record { delegated = w.delegated; endpoint = w.endpoint }

-- a pair for which there is a wish
abbrev pub IsWished : List Wish → Pair → Type 0
IsWished wishes pair = (wish : Wish) × Contains wishes wish × (wish_pair wish ≡ pair)

-- strictly ascending by their pairs, so that a pair has one element at most
abbrev pub IsAscending : {A : Type 0} → (A → Pair) → List A → Type 0
IsAscending pair_of xs = IsStrictlySortedBy (on pair_of pair_cmp) xs

-- afterwards a list has this for a pair, or nothing, and for other pairs what it had before
pub record Updates {A : Type 0} (pair_of : A → Pair) (pair : Pair) (has : Option A) (before after : List A) : Type 0 where
  pub ascending : IsAscending pair_of after
  pub here : HasAt pair_of pair has after
  pub others : (x : A) → ¬ (pair_of x ≡ pair) → Contains after x ↔ Contains before x

-- afterwards a list has what it had for wished pairs, and nothing for others
pub record KeepsWished {A : Type 0} (pair_of : A → Pair) (wishes : List Wish) (before after : List A) : Type 0 where
  pub ascending : IsAscending pair_of after
  pub those : (x : A) → Contains after x ↔ Contains before x × IsWished wishes (pair_of x)

-- where the element of a pair is, or else where it would be: after those below it and before those above it
abbrev pub IsPlaceOfPair : {A : Type 0} → (A → Pair) → Pair → List A → Result ℕ ℕ → Type 0
IsPlaceOfPair pair_of pair xs (Ok place) = (place < length xs) × HoldsAt (λ x. pair_of x ≡ pair) xs place
IsPlaceOfPair pair_of pair xs (Err place) =
    (place ≤ length xs)
    × IsPartitionPoint (λ x. pair_cmp (pair_of x) pair ≡ Less) (λ x. pair_cmp (pair_of x) pair ≡ Greater) xs place
