-- Prefixes in ascending order, and which are inside no other.
use Rattle.hn_base.proofs.Names.{◌≡◌, ◌⊎◌, ℕ, ◌+◌, ◌-◌, ◌<◌, ◌≤◌, List, [], ◌∷◌, ◌++◌, length, get_or, take, Contains, Some, sym, ◌∙◌, ap, subst, inl, inr, ⊎_elim, arith, slice_get, All, Less}
use Rattle.hn_base.proofs.Names.{cases_lt, All-contains, All-take, Contains-push, Contains-push_cases, Contains-append_left, Less-from_sorted, pow_pos, get_or_from_slice_get, PlainPrefix, IsPrefix}
use Rattle.hn_base.proofs.Names.{IsWithin, prefix_cmp}
use Rattle.hn_deleg.proofs.Names.{contains_at, nothing_in, sorted_push, AreOutermost, IsCovered, IsReadyFor, front_at}
use Rattle.std.specs.List.Sorted.{IsStrictlySortedBy}
use Rattle.std.proofs.lemmas.Map.Views.{All-before_last}
use Rattle.hn_deleg.proofs.FirstElements.{sorted_take}
use Rattle.hn_deleg.proofs.Prefixes.{WithinIsRange, OverlapIsRange, OverlapIsNesting, less_bits, not_within_later}

-- an element is the last one, or before it
last_or_before : (kept : List PlainPrefix) (k l : PlainPrefix) → IsStrictlySortedBy prefix_cmp kept → Contains kept k → slice_get kept (length kept - 1) ≡ Some l → (k ≡ l) ⊎ (prefix_cmp k l ≡ Less)
last_or_before kept k l up (i, lt, at) last =
    let end : get_or kept (length kept - 1) k ≡ l = get_or_from_slice_get kept (length kept - 1) l k last in
    ⊎_elim (λ (early : i < length kept - 1).
    let less : prefix_cmp (get_or kept i k) (get_or kept (length kept - 1) k) ≡ Less = Less-from_sorted prefix_cmp kept i (length kept - 1) k up early (omega (arith, lt)) in
    inr (subst (λ (x : PlainPrefix). prefix_cmp x l ≡ Less) at (subst (λ (y : PlainPrefix). prefix_cmp (get_or kept i k) y ≡ Less) end less)))
    (λ (late : length kept - 1 ≤ i).
    let same : i ≡ length kept - 1 = omega (arith, lt) in
    inl (sym at ∙ ap (λ j. get_or kept j k) same ∙ end))
    (cases_lt i (length kept - 1))

-- ---- one prefix after the other

-- of the prefixes of a list, those that are inside no other, and each is inside one of them
pub record IsFiltered (xs kept : List PlainPrefix) : Type 0 where
  pub ascending : IsStrictlySortedBy prefix_cmp kept
  pub early : (k : PlainPrefix) → Contains kept k → Contains xs k
  pub outermost : (k q : PlainPrefix) → Contains kept k → Contains xs q → IsWithin k q → q ≡ k
  pub covered : (q : PlainPrefix) → Contains xs q → IsCovered kept q

pub filtered_none : IsFiltered [] []
unfolding IsStrictlySortedBy
filtered_none = record {
  ascending = tt;
  early = λ k h. absurd (nothing_in k h);
  outermost = λ k q h _ _. absurd (nothing_in k h);
  covered = λ q h. absurd (nothing_in q h);
}

pub ready_next : (xs kept : List PlainPrefix) (p : PlainPrefix) → IsStrictlySortedBy prefix_cmp (xs ++ p ∷ []) → All IsPrefix (xs ++ p ∷ []) → IsFiltered xs kept → IsReadyFor kept p
ready_next xs kept p up valid f = record {
  ascending = f.ascending;
  apart = λ a b ka kb w. f.outermost a b ka (f.early b kb) w;
  before = λ a ka. All-contains (λ x. prefix_cmp x p ≡ Less) xs a (All-before_last prefix_cmp xs p up) (f.early a ka);
  valid = λ a ka. All-contains IsPrefix (xs ++ p ∷ []) a valid (Contains-append_left xs (p ∷ []) a (f.early a ka));
  valid_p = All-contains IsPrefix (xs ++ p ∷ []) p valid (Contains-push xs p);
}

-- the last one kept has inside what one of them has
pub covered_by_last : WithinIsRange → OverlapIsRange → OverlapIsNesting → (kept : List PlainPrefix) (p l : PlainPrefix) → IsReadyFor kept p
    → slice_get kept (length kept - 1) ≡ Some l → IsCovered kept p → IsWithin p l
covered_by_last within_range overlap_range nesting kept p l ready last c =
    ⊎_elim (λ (is : c.outer ≡ l). subst (IsWithin p) is c.inside)
    (λ (less : prefix_cmp c.outer l ≡ Less).
    let k = c.outer in
    let l_in = contains_at kept (length kept - 1) l last in
    let valid_k = ready.valid k c.among in
    let valid_l = ready.valid l l_in in
    let first : k.bits ≤ l.bits = less_bits k l less in
    let second : l.bits ≤ p.bits = less_bits l p (ready.before l l_in) in
    let range = (within_range k p valid_k ready.valid_p).0 c.inside in
    let end_p = pow_pos (128 - p.len) in
    let end_l = pow_pos (128 - l.len) in
    let overlap = (overlap_range l k valid_l valid_k).1 (omega arith, omega arith) in
    ⊎_elim (λ (in_k : IsWithin l k). subst (IsWithin p) (ready.apart l k l_in c.among in_k) c.inside)
    (λ (in_l : IsWithin k l). λ a inside. in_l a (c.inside a inside))
    ((nesting l k).0 overlap))
    (last_or_before kept c.outer l ready.ascending c.among last)

-- the next prefix is inside one of those kept
pub filtered_same : WithinIsRange → (xs kept : List PlainPrefix) (p : PlainPrefix) → IsReadyFor kept p → IsFiltered xs kept → IsCovered kept p → IsFiltered (xs ++ p ∷ []) kept
filtered_same within_range xs kept p ready f c = record {
  ascending = f.ascending;
  early = λ k h. Contains-append_left xs (p ∷ []) k (f.early k h);
  outermost = λ k q h g w. ⊎_elim (λ (old : Contains xs q). f.outermost k q h old w)
      (λ (new : p ≡ q). absurd (not_within_later within_range k p (ready.valid k h) ready.valid_p (ready.before k h) (subst (IsWithin k) (sym new) w)))
      (Contains-push_cases xs p q g);
  covered = λ q g. ⊎_elim (λ (old : Contains xs q). f.covered q old) (λ (new : p ≡ q). subst (IsCovered kept) new c) (Contains-push_cases xs p q g);
}

-- the next prefix is inside none of those kept
pub filtered_more : WithinIsRange → (xs kept : List PlainPrefix) (p : PlainPrefix) → IsReadyFor kept p → IsFiltered xs kept → ¬ (IsCovered kept p) → IsFiltered (xs ++ p ∷ []) (kept ++ p ∷ [])
filtered_more within_range xs kept p ready f none = record {
  ascending = sorted_push prefix_cmp kept p f.ascending ready.before;
  early = λ k h. ⊎_elim (λ (old : Contains kept k). Contains-append_left xs (p ∷ []) k (f.early k old))
      (λ (new : p ≡ k). subst (Contains (xs ++ p ∷ [])) new (Contains-push xs p)) (Contains-push_cases kept p k h);
  outermost = λ k q h g w. ⊎_elim (λ (old_k : Contains kept k). ⊎_elim (λ (old : Contains xs q). f.outermost k q old_k old w)
      (λ (new : p ≡ q). absurd (not_within_later within_range k p (ready.valid k old_k) ready.valid_p (ready.before k old_k) (subst (IsWithin k) (sym new) w)))
      (Contains-push_cases xs p q g))
      (λ (is_k : p ≡ k). ⊎_elim (λ (old : Contains xs q).
      let c = f.covered q old in
      let within : IsWithin p q = subst (λ (x : PlainPrefix). IsWithin x q) (sym is_k) w in
      absurd (none (record { outer = c.outer; among = c.among; inside = λ a inside. c.inside a (within a inside) })))
      (λ (new : p ≡ q). sym new ∙ is_k)
      (Contains-push_cases xs p q g))
      (Contains-push_cases kept p k h);
  covered = λ q g. ⊎_elim (λ (old : Contains xs q). let c = f.covered q old in record { outer = c.outer; among = Contains-append_left kept (p ∷ []) c.outer c.among; inside = c.inside })
      (λ (new : p ≡ q). record { outer = p; among = Contains-push kept p; inside = subst (λ (x : PlainPrefix). IsWithin x p) new (λ a inside. inside) })
      (Contains-push_cases xs p q g);
}

-- ---- the same, by the place of the next prefix

pub ready_at : (ascending kept : List PlainPrefix) (n : ℕ) (p : PlainPrefix) → slice_get ascending n ≡ Some p → IsStrictlySortedBy prefix_cmp ascending
    → All IsPrefix ascending → IsFiltered (take n ascending) kept → IsReadyFor kept p
ready_at ascending kept n p at up valid f =
    let more = front_at ascending n p at in
    ready_next (take n ascending) kept p (subst (IsStrictlySortedBy prefix_cmp) more (sorted_take prefix_cmp (n + 1) ascending up))
    (subst (All IsPrefix) more (All-take IsPrefix (n + 1) ascending valid)) f

pub filtered_same_at : WithinIsRange → (ascending kept : List PlainPrefix) (n : ℕ) (p : PlainPrefix) → slice_get ascending n ≡ Some p
    → IsStrictlySortedBy prefix_cmp ascending → All IsPrefix ascending → IsFiltered (take n ascending) kept
    → IsCovered kept p → IsFiltered (take (n + 1) ascending) kept
filtered_same_at within_range ascending kept n p at up valid f c =
    subst (λ (l : List PlainPrefix). IsFiltered l kept) (sym (front_at ascending n p at)) (filtered_same within_range (take n ascending) kept p (ready_at ascending kept n p at up valid f) f c)

pub filtered_more_at : WithinIsRange → (ascending kept : List PlainPrefix) (n : ℕ) (p : PlainPrefix) → slice_get ascending n ≡ Some p
    → IsStrictlySortedBy prefix_cmp ascending → All IsPrefix ascending → IsFiltered (take n ascending) kept
    → ¬ (IsCovered kept p) → IsFiltered (take (n + 1) ascending) (kept ++ p ∷ [])
filtered_more_at within_range ascending kept n p at up valid f none =
    subst (λ (l : List PlainPrefix). IsFiltered l (kept ++ p ∷ [])) (sym (front_at ascending n p at))
    (filtered_more within_range (take n ascending) kept p (ready_at ascending kept n p at up valid f) f none)

pub outermost_from_filtered : (xs kept : List PlainPrefix) → IsFiltered xs kept → AreOutermost xs kept
outermost_from_filtered xs kept f = record {
  ascending = f.ascending;
  exact = λ p. (
    λ h. record { among = f.early p h; not_inside = λ q g w. f.outermost p q h g w },
    λ o. let c = f.covered p o.among in
        let e : c.outer ≡ p = o.not_inside c.outer (f.early c.outer c.among) c.inside in
        subst (Contains kept) e c.among,
  );
}
