-- One of the first elements of a list has a fact, which may speak of its place.
use Rattle.hn_base.proofs.Names.{◌≡◌, ℕ, ◌+◌, ◌<◌, ◌≤◌, ◌⊎◌, inl, inr, List, length, Some, slice_get, sym, ◌∙◌, ap, subst, ⊎_elim, arith, cases_lt, same_Some, slice_get_within}

pub record IsOfFirst {K : Type 0} (P : ℕ → K → Type 0) (xs : List K) (n : ℕ) : Type 0 where
  pub k : ℕ
  pub x : K
  pub before : k < n
  pub at : slice_get xs k ≡ Some x
  pub fact : P k x

module _ {K : Type 0} (P : ℕ → K → Type 0) (xs : List K) where
  pub none_of_first : ¬ IsOfFirst P xs 0
  none_of_first h = let before = h.before in omega arith

  pub first_further : (n : ℕ) → IsOfFirst P xs n → IsOfFirst P xs (n + 1)
  first_further n h = record { k = h.k; x = h.x; before = (let before = h.before in omega arith); at = h.at; fact = h.fact }

  pub first_last : (n : ℕ) (x : K) → slice_get xs n ≡ Some x → P n x → IsOfFirst P xs (n + 1)
  first_last n x at fact = record { k = n; x = x; before = omega arith; at = at; fact = fact }

  -- of one more, the last, or one of those before
  pub first_cases : (n : ℕ) (x : K) → slice_get xs n ≡ Some x → IsOfFirst P xs (n + 1) → IsOfFirst P xs n ⊎ P n x
  first_cases n x at h =
      ⊎_elim (λ (below : h.k < n). inl (record { k = h.k; x = h.x; before = below; at = h.at; fact = h.fact }))
      (λ (rest : n ≤ h.k).
      let last : h.k ≡ n = let before = h.before in omega arith in
      let one : h.x ≡ x = same_Some h.x x (sym h.at ∙ ap (slice_get xs) last ∙ at) in
      inr (subst (λ (y : K). P n y) one (subst (λ (k : ℕ). P k h.x) last h.fact)))
      (cases_lt h.k n)

  -- of as many as the list has, any
  pub first_of_all : (n k : ℕ) (x : K) → length xs ≤ n → slice_get xs k ≡ Some x → P k x → IsOfFirst P xs n
  first_of_all n k x all at fact =
      let lt = slice_get_within xs k x at in
      record { k = k; x = x; before = omega arith; at = at; fact = fact }
