-- A router's own delegated prefixes stay in ascending order and few when one is added and when some go.
use Rattle.hn_base.proofs.Names.{◌≡◌, ◌≤◌, ◌+◌, ◌∙◌, suc, Bool, true, false, List, ◌∷◌, length, filter, refl, sym, inl, inr, arith, length-append, All, ◌==◌, ◌&&◌, Less, Equal, IsStrictlySortedBy}
use Rattle.hn_base.proofs.Names.{ltb-true, or_cases, on_total, All-weaker, filter_passes, recursion_from_All, IsStrictlySortedBy-filter, length-filter, count_by-le-length, PlainPrefix, prefix_cmp}
use Rattle.hn_own.proofs.Names.{nat_lt, equal_from_is_eq, OwnPrefix, AreOwnPrefixes, is_prefix, is_before, delegated_with}
use Rattle.hn_base.proofs.BelowAndAbove.{few_apart, fewer_apart, sorted_around}
use Rattle.hn_base.proofs.Prefixes.{prefix_total}
use Rattle.hn_own.proofs.PrefixLists.{own_cmp, is_prefix-cmp, is_before-less}
use Rattle.hn_own.specs.OwnPrefixes.{is_delegated, may_delegate}

-- ---- some of them

pub own-filter : (stays : OwnPrefix → Bool) (list : List OwnPrefix) → AreOwnPrefixes list → AreOwnPrefixes (filter stays list)
own-filter stays list are = record {
  ascending = IsStrictlySortedBy-filter own_cmp stays list are.ascending;
  few = let few = are.few in omega (arith, length-filter stays list, count_by-le-length stays list);
}

-- ---- one prefix comes before another, after it, or is it

equal_from_same : (p q : PlainPrefix) → (p.bits == q.bits && p.len == q.len) ≡ true → prefix_cmp p q ≡ Equal
equal_from_same p q same = equal_from_is_eq (prefix_cmp p q) (sym (is_prefix-cmp p q) ∙ same)

not_after : (p q : PlainPrefix) → is_before p q ≡ true → is_before q p ≡ false
not_after p q before = rw (prefix_total.antisymm q p, is_before-less p q before) refl

neither : (p q : PlainPrefix) → (p.bits == q.bits && p.len == q.len) ≡ true → (is_before p q ≡ false) × (is_before q p ≡ false)
neither p q same =
    let equal = equal_from_same p q same in
    (rw equal refl, rw (prefix_total.antisymm q p, equal) refl)

-- ---- one more

module _ (own : OwnPrefix) where
  abbrev lower_than : OwnPrefix → Bool
  lower_than p = is_before p.prefix own.prefix

  abbrev higher_than : OwnPrefix → Bool
  higher_than p = is_before own.prefix p.prefix

  with_ascending : (list : List OwnPrefix) → IsStrictlySortedBy own_cmp list → IsStrictlySortedBy own_cmp (delegated_with own list)
  with_ascending list up =
      let below : All (λ p. own_cmp p own ≡ Less) (filter lower_than list) =
      All-weaker (λ p. lower_than p ≡ true) (λ p. own_cmp p own ≡ Less) (λ p is. is_before-less p.prefix own.prefix is) (filter lower_than list) (filter_passes lower_than list) in
      let above : All (λ p. own_cmp own p ≡ Less) (filter higher_than list) =
      All-weaker (λ p. higher_than p ≡ true) (λ p. own_cmp own p ≡ Less) (λ p is. is_before-less own.prefix p.prefix is) (filter higher_than list) (filter_passes higher_than list) in
      sorted_around own_cmp (on_total (λ p. p.prefix) prefix_total) (filter lower_than list) own (filter higher_than list)
      (IsStrictlySortedBy-filter own_cmp lower_than list up) (recursion_from_All (λ p. own_cmp p own ≡ Less) (filter lower_than list) below)
      (IsStrictlySortedBy-filter own_cmp higher_than list up) (recursion_from_All (λ p. own_cmp own p ≡ Less) (filter higher_than list) above)

  with_length : (list : List OwnPrefix) → length (delegated_with own list) ≡ suc (length (filter lower_than list) + length (filter higher_than list))
  with_length list = let e = length-append (filter lower_than list) (own ∷ filter higher_than list) in omega arith

  with_few : (list : List OwnPrefix) → length list ≤ 8 → may_delegate own.prefix list ≡ true → length (delegated_with own list) ≤ 8
  with_few list few may =
      let length_is = with_length list in
      let apart = λ (p : OwnPrefix). not_after p.prefix own.prefix in
      elim (or_cases (is_delegated own.prefix list) (nat_lt (length list) 8) may) [
        | inl there ↦
            let fewer = fewer_apart lower_than higher_than (is_prefix own.prefix) apart (λ p. neither p.prefix own.prefix) list there in
            omega arith
        | inr room ↦
            let less = ltb-true (length list) 8 room in
            let fewer = few_apart lower_than higher_than (is_prefix own.prefix) apart list in
            omega arith
      ]

  pub own-with : (list : List OwnPrefix) → may_delegate own.prefix list ≡ true → AreOwnPrefixes list → AreOwnPrefixes (delegated_with own list)
  own-with list may are = record { ascending = with_ascending list are.ascending; few = with_few list are.few may }
