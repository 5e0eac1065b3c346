-- A router's own delegated prefixes, when one is put or taken out.
use Rattle.hn_base.proofs.Names.{◌≡◌, ◌<◌, ◌≤◌, ℕ, Bool, true, false, not, Ordering, List, [], ◌∷◌, length, filter, take, drop, get_or, refl, sym, ap, ◌∙◌, inl, inr, rules, arith, insert, ◌==◌, ◌&&◌}
use Rattle.hn_base.proofs.Names.{Less, Equal, Greater, IsTotalOrder, comparing, on, is_eq, ordering_reverse, list_any, IsPartitionPoint, IsPartitionedBy, cases_lt, not-true, or_parts, filter_passes}
use Rattle.hn_base.proofs.Names.{Less-from_sorted, PlainPrefix, prefix_cmp}
use Rattle.hn_own.proofs.Names.{filter-front, filter-back, OwnPrefix, AreOwnPrefixes, is_prefix, is_before, delegated_with, delegated_without}
use Rattle.std.specs.Ordering.{match_ordering}
use Rattle.std.specs.List.Sorted.{IsStrictlySortedBy}

-- their order
abbrev pub own_cmp : OwnPrefix → OwnPrefix → Ordering
own_cmp = on (λ p. p.prefix) prefix_cmp

-- ---- none

pub AreOwnPrefixes-none : AreOwnPrefixes []
unfolding IsStrictlySortedBy
AreOwnPrefixes-none = record { ascending = tt; few = omega arith }

-- ---- filters

-- where no element passes a test, each is kept by its opposite
pub filter_none_passes : {A : Type 0} (p : A → Bool) (xs : List A) → list_any p xs ≡ false → filter (λ x. not (p x)) xs ≡ xs
filter_none_passes p [] none = refl
filter_none_passes p (x ∷ xs) none =
    let parts = or_parts (p x) (list_any p xs) none in
    rw parts.0 (ap (λ ys. x ∷ ys) (filter_none_passes p xs parts.1))

-- what passes the first test passes the second, which so changes nothing
filter_within : {A : Type 0} (p q : A → Bool) → ((x : A) → p x ≡ true → q x ≡ true) → (xs : List A) → filter p (filter q xs) ≡ filter p xs
filter_within p q within [] = refl
filter_within p q within (x ∷ xs) = by_tests (p x) (q x) refl refl (filter_within p q within xs)
  where
    by_tests : (b c : Bool) → p x ≡ b → q x ≡ c → filter p (filter q xs) ≡ filter p xs → filter p (filter q (x ∷ xs)) ≡ filter p (x ∷ xs)
    by_tests true true is also rest = rw (also, is) (ap (λ ys. x ∷ ys) rest)
    by_tests true false is also rest = let both = within x is in absurd (cc)
    by_tests false true is also rest = rw (also, is) rest
    by_tests false false is also rest = rw (also, is) rest

-- ---- which comes first

-- it is that prefix where neither comes before the other
pub is_prefix-cmp : (p q : PlainPrefix) → (p.bits == q.bits && p.len == q.len) ≡ is_eq (prefix_cmp p q)
is_prefix-cmp p q = search (comparing, rules)

pub is_before-less : (p q : PlainPrefix) → is_before p q ≡ true → prefix_cmp p q ≡ Less
is_before-less p q = by_order (prefix_cmp p q)
  where
    by_order : (r : Ordering) → match_ordering r true false false ≡ true → r ≡ Less
    by_order Less is = refl
    by_order Equal is = absurd (cc)
    by_order Greater is = absurd (cc)

module _ (total : IsTotalOrder prefix_cmp) where
  less_not_before : (p q : PlainPrefix) → prefix_cmp p q ≡ Less → is_before q p ≡ false
  less_not_before p q less = rw (total.antisymm q p, less) refl

  -- of two prefixes that are not one, one comes before the other
  other_less : (p q : PlainPrefix) → (p.bits == q.bits && p.len == q.len) ≡ false → is_before p q ≡ false → prefix_cmp q p ≡ Less
  other_less p q other past = total.antisymm q p ∙ ap ordering_reverse (by_order (prefix_cmp p q) (sym (is_prefix-cmp p q) ∙ other) past)
    where
      by_order : (r : Ordering) → is_eq r ≡ false → match_ordering r true false false ≡ false → r ≡ Greater
      by_order Less apart past = absurd (cc)
      by_order Equal apart past = absurd (cc)
      by_order Greater apart past = refl

  -- the lower prefixes come first
  pub AreOwnPrefixes-partitioned : (at : PlainPrefix) (list : List OwnPrefix) → AreOwnPrefixes list → IsPartitionedBy (λ p. is_before p.prefix at) list
  AreOwnPrefixes-partitioned at list are i j d le within passes =
      elim (cases_lt i j) [
        | inl less ↦
            let up = Less-from_sorted own_cmp list i j d are.ascending less within in
            rw (total.trans (get_or list i d).prefix (get_or list j d).prefix at up (is_before-less (get_or list j d).prefix at passes)) refl
        | inr past ↦ let same : i ≡ j = omega arith in rw same passes
      ]

-- ---- one more

-- the place at which the lower prefixes end
pub record IsPlaceFor (at : PlainPrefix) (list : List OwnPrefix) (i : ℕ) : Type 0 where
  pub within : i ≤ length list
  pub before : (k : ℕ) (d : OwnPrefix) → k < i → prefix_cmp (get_or list k d).prefix at ≡ Less
  pub after : (k : ℕ) (d : OwnPrefix) → i ≤ k → k < length list → prefix_cmp at (get_or list k d).prefix ≡ Less

pub place_for : IsTotalOrder prefix_cmp → (at : PlainPrefix) (list : List OwnPrefix) (i : ℕ) → i ≤ length (delegated_without at list)
    → IsPartitionPoint (λ (p : OwnPrefix). is_before p.prefix at ≡ true) (λ (p : OwnPrefix). is_before p.prefix at ≡ false) (delegated_without at list) i → IsPlaceFor at (delegated_without at list) i
place_for total at list i within parts = record {
  within = within;
  before = λ k d less. is_before-less (get_or (delegated_without at list) k d).prefix at (parts.0 k d (omega arith) less);
  after = λ k d past less.
      let p = get_or (delegated_without at list) k d in
      let other : is_prefix at p ≡ false = not-true (is_prefix at p) (filter_passes (λ q. not (is_prefix at q)) list k d less) in
      other_less total p.prefix at other (parts.1 k d past less);
}

inserted : IsTotalOrder prefix_cmp → (own : OwnPrefix) (list : List OwnPrefix) (i : ℕ) → IsPlaceFor own.prefix list i → insert list i own ≡ delegated_with own list
inserted total own list i place =
    let front : take i list ≡ filter (λ p. is_before p.prefix own.prefix) list =
    sym (filter-front (λ (p : OwnPrefix). is_before p.prefix own.prefix) list i (λ k d less within. rw (place.before k d less) refl)
    (λ k d past less. less_not_before total own.prefix (get_or list k d).prefix (place.after k d past less)))
    in
    let back : drop i list ≡ filter (λ p. is_before own.prefix p.prefix) list =
    sym (filter-back (λ (p : OwnPrefix). is_before own.prefix p.prefix) list i
    (λ k d less within. less_not_before total (get_or list k d).prefix own.prefix (place.before k d less)) (λ k d past less. rw (place.after k d past less) refl))
    in
    cc

-- what comes before or after a prefix is another one
lower_other : (at : PlainPrefix) (p : OwnPrefix) → is_before p.prefix at ≡ true → not (is_prefix at p) ≡ true
lower_other at p lower = rw (is_prefix-cmp p.prefix at, is_before-less p.prefix at lower) refl

higher_other : IsTotalOrder prefix_cmp → (at : PlainPrefix) (p : OwnPrefix) → is_before at p.prefix ≡ true → not (is_prefix at p) ≡ true
higher_other total at p higher = rw (is_prefix-cmp p.prefix at, total.antisymm p.prefix at, is_before-less at p.prefix higher) refl

with_without : IsTotalOrder prefix_cmp → (own : OwnPrefix) (list : List OwnPrefix) → delegated_with own (delegated_without own.prefix list) ≡ delegated_with own list
with_without total own list =
    let lower = filter_within (λ (p : OwnPrefix). is_before p.prefix own.prefix) (λ p. not (is_prefix own.prefix p)) (lower_other own.prefix) list in
    let higher = filter_within (λ (p : OwnPrefix). is_before own.prefix p.prefix) (λ p. not (is_prefix own.prefix p)) (higher_other total own.prefix) list in
    cc

pub delegated_with-insert : IsTotalOrder prefix_cmp → (own : OwnPrefix) (list : List OwnPrefix) (i : ℕ) → IsPlaceFor own.prefix (delegated_without own.prefix list) i
    → insert (delegated_without own.prefix list) i own ≡ delegated_with own list
delegated_with-insert total own list i place = inserted total own (delegated_without own.prefix list) i place ∙ with_without total own list
