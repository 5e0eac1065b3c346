-- The greatest of a lifetime, one announcement after the other.
use Rattle.hn_base.proofs.Names.{◌≡◌, ◌≢◌, ◌⊎◌, ℕ, ◌<◌, ◌≤◌, List, take, slice_get, Some, ◌+◌, [], ◌∷◌, ◌++◌, Contains, refl, sym, ◌∙◌, ap, subst, inl, inr, ⊎_elim, arith, max, min, cases_lt}
use Rattle.hn_base.proofs.Names.{Contains-push, Contains-push_cases, Contains-append_left, PlainPrefix}
use Rattle.hn_deleg.proofs.Names.{Contains-from_map, nothing_in, Delegated, IsGreatestIn, HasLifetimesIn, prefixes_of, front_at}

-- not below the lifetimes of a prefix, and one of them or 0
pub record IsTop (xs : List Delegated) (p : PlainPrefix) (f : Delegated → ℕ) (ms : ℕ) : Type 0 where
  pub above : (u : Delegated) → Contains xs u → u.prefix ≡ p → f u ≤ ms
  pub attained : (ms ≡ 0) ⊎ ((u : Delegated) × Contains xs u × (u.prefix ≡ p) × (ms ≡ f u))

-- the same of both lifetimes
pub record AreTops (xs : List Delegated) (p : PlainPrefix) (valid preferred : ℕ) : Type 0 where
  pub valid_top : IsTop xs p (λ u. u.valid) valid
  pub preferred_top : IsTop xs p (λ u. u.preferred) preferred

top_none : (p : PlainPrefix) (f : Delegated → ℕ) → IsTop [] p f 0
top_none p f = record { above = λ u h _. absurd (nothing_in u h); attained = inl refl }

pub tops_none : (p : PlainPrefix) → AreTops [] p 0 0
tops_none p = record { valid_top = top_none p (λ u. u.valid); preferred_top = top_none p (λ u. u.preferred) }

top_more : (xs : List Delegated) (u : Delegated) (p : PlainPrefix) (f : Delegated → ℕ) (ms : ℕ) → IsTop xs p f ms → u.prefix ≡ p → IsTop (xs ++ u ∷ []) p f (max (f u) ms)
top_more xs u p f ms top is = record {
  above = λ v h e. ⊎_elim (λ (old : Contains xs v). let less : f v ≤ ms = top.above v old e in omega arith)
      (λ (new : u ≡ v). let same : f u ≡ f v = ap f new in omega arith)
      (Contains-push_cases xs u v h);
  attained = ⊎_elim (λ (less : ms < f u). let most : max (f u) ms ≡ f u = omega arith in inr (u, Contains-push xs u, is, most))
      (λ (rest : f u ≤ ms).
      let most : max (f u) ms ≡ ms = omega arith in
      ⊎_elim (λ (zero : ms ≡ 0). inl (most ∙ zero))
      (λ (old : (v : Delegated) × Contains xs v × (v.prefix ≡ p) × (ms ≡ f v)). inr (old.0, Contains-append_left xs (u ∷ []) old.0 old.1, old.2, most ∙ old.3))
      top.attained)
      (cases_lt ms (f u));
}

top_other : (xs : List Delegated) (u : Delegated) (p : PlainPrefix) (f : Delegated → ℕ) (ms : ℕ) → IsTop xs p f ms → u.prefix ≢ p → IsTop (xs ++ u ∷ []) p f ms
top_other xs u p f ms top other = record {
  above = λ v h e. ⊎_elim (λ (old : Contains xs v). top.above v old e)
      (λ (new : u ≡ v). absurd (other (ap (λ w. w.prefix) new ∙ e)))
      (Contains-push_cases xs u v h);
  attained = ⊎_elim (λ (zero : ms ≡ 0). inl zero)
      (λ (old : (v : Delegated) × Contains xs v × (v.prefix ≡ p) × (ms ≡ f v)). inr (old.0, Contains-append_left xs (u ∷ []) old.0 old.1, old.2, old.3))
      top.attained;
}

pub tops_more : (xs : List Delegated) (u : Delegated) (p : PlainPrefix) (valid preferred : ℕ) → AreTops xs p valid preferred → u.prefix ≡ p
    → AreTops (xs ++ u ∷ []) p (max u.valid valid) (max u.preferred preferred)
tops_more xs u p valid preferred tops is = record {
  valid_top = top_more xs u p (λ v. v.valid) valid tops.valid_top is;
  preferred_top = top_more xs u p (λ v. v.preferred) preferred tops.preferred_top is;
}

pub tops_other : (xs : List Delegated) (u : Delegated) (p : PlainPrefix) (valid preferred : ℕ) → AreTops xs p valid preferred → u.prefix ≢ p → AreTops (xs ++ u ∷ []) p valid preferred
tops_other xs u p valid preferred tops other = record {
  valid_top = top_other xs u p (λ v. v.valid) valid tops.valid_top other;
  preferred_top = top_other xs u p (λ v. v.preferred) preferred tops.preferred_top other;
}

pub tops_more_at : (xs : List Delegated) (n : ℕ) (u : Delegated) (p : PlainPrefix) (valid preferred : ℕ) → slice_get xs n ≡ Some u
    → AreTops (take n xs) p valid preferred → u.prefix ≡ p → AreTops (take (n + 1) xs) p (max u.valid valid) (max u.preferred preferred)
tops_more_at xs n u p valid preferred at tops is =
    subst (λ (l : List Delegated). AreTops l p (max u.valid valid) (max u.preferred preferred)) (sym (front_at xs n u at)) (tops_more (take n xs) u p valid preferred tops is)

pub tops_other_at : (xs : List Delegated) (n : ℕ) (u : Delegated) (p : PlainPrefix) (valid preferred : ℕ) → slice_get xs n ≡ Some u
    → AreTops (take n xs) p valid preferred → u.prefix ≢ p → AreTops (take (n + 1) xs) p valid preferred
tops_other_at xs n u p valid preferred at tops other = subst (λ (l : List Delegated). AreTops l p valid preferred) (sym (front_at xs n u at)) (tops_other (take n xs) u p valid preferred tops other)

greatest_from_top : (xs : List Delegated) (p : PlainPrefix) (f : Delegated → ℕ) (ms : ℕ) → Contains (prefixes_of xs) p → IsTop xs p f ms → IsGreatestIn xs p f ms
greatest_from_top xs p f ms there top =
    let found = Contains-from_map (λ (u : Delegated). u.prefix) xs p there in
    ⊎_elim (λ (zero : ms ≡ 0).
    let least : f found.0 ≤ ms = top.above found.0 found.1 found.2 in
    record { one = found.0; among = found.1; is_it = found.2; this = omega arith; none_greater = top.above })
    (λ (old : (v : Delegated) × Contains xs v × (v.prefix ≡ p) × (ms ≡ f v)). record { one = old.0; among = old.1; is_it = old.2; this = old.3; none_greater = top.above })
    top.attained

pub lifetimes_from_tops : (xs : List Delegated) (u : Delegated) (preferred : ℕ) → Contains (prefixes_of xs) u.prefix
    → AreTops xs u.prefix u.valid preferred → u.preferred ≡ min preferred u.valid → HasLifetimesIn xs u
lifetimes_from_tops xs u preferred there tops cut = record {
  preferred = preferred;
  greatest_valid = greatest_from_top xs u.prefix (λ v. v.valid) u.valid there tops.valid_top;
  greatest_preferred = greatest_from_top xs u.prefix (λ v. v.preferred) preferred there tops.preferred_top;
  cut = cut;
}
