-- The elements that pass a test, and the first of them.
use Rattle.hn_base.proofs.Names.{◌≡◌, ◌≢◌, ◌<◌, ◌≤◌, ℕ, zero, suc, Bool, true, false, cond, List, [], ◌∷◌, length, map, Option, Some, None, ap, refl, get_or, arith, filter, if◌then◌else◌, All, find}
use Rattle.hn_base.proofs.Names.{position_or_len, list_any, ltb-false, cond_both, or_parts, fails_before_first, All-head, All-tail}
use Rattle.hn_base.proofs.Names.{nat_lt}
use Rattle.std.specs.Prelude.{slice_set, position}

unreached : (n len : ℕ) → ◌≡◌ {A = Option ℕ} (cond (nat_lt n len) (Some n) None) None → len ≤ n
unreached n len none = by_test (nat_lt n len) refl none
  where
    by_test : (b : Bool) → nat_lt n len ≡ b → ◌≡◌ {A = Option ℕ} (cond b (Some n) None) None → len ≤ n
    by_test true is e = absurd cc
    by_test false is e = ltb-false _ _ is

-- where the elements that pass stay in a part of the list, the same one is found
pub find-filter : {A : Type 0} (p q : A → Bool) (xs : List A) → All (λ x. p x ≡ true → q x ≡ true) xs → find p (filter q xs) ≡ find p xs
find-filter p q [] stay = refl
find-filter p q (x ∷ xs) stay =
    by_test (p x) refl (All-head (λ x. p x ≡ true → q x ≡ true) x xs stay) (find-filter p q xs (All-tail (λ x. p x ≡ true → q x ≡ true) x xs stay))
  where
    by_test : (b : Bool) → p x ≡ b → (p x ≡ true → q x ≡ true) → find p (filter q xs) ≡ find p xs → find p (cond (q x) (x ∷ filter q xs) (filter q xs)) ≡ cond b (Some x) (find p xs)
    by_test true is stays more = rw (stays is, is) refl
    by_test false is stays more =
        cond_both (q x) (x ∷ filter q xs) (filter q xs) (λ kept. find p kept ≡ find p xs) (λ _. rw is more) (λ _. more)

module _ {A : Type 0} (p : A → Bool) where
  -- where there is no place of one that passes, none passes
  pub none_passes : (xs : List A) → position p xs ≡ None → (k : ℕ) (d : A) → k < length xs → p (get_or xs k d) ≡ false
  none_passes xs none k d within =
      let past = unreached (position_or_len p xs) (length xs) none in
      fails_before_first p xs k d (omega arith)

  -- where none passes, each fails
  pub each_fails : (xs : List A) → list_any p xs ≡ false → (k : ℕ) (d : A) → k < length xs → p (get_or xs k d) ≡ false
  each_fails [] none k d within = absurd (omega arith)
  each_fails (x ∷ xs) none zero d within = (or_parts (p x) (list_any p xs) none).0
  each_fails (x ∷ xs) none (suc k) d within = each_fails xs (or_parts (p x) (list_any p xs) none).1 k d (omega arith)

  unchanged : (f : A → A) (xs : List A) (d : A) → ((k : ℕ) → k < length xs → p (get_or xs k d) ≡ false) → map (λ x. if p x then f x else x) xs ≡ xs
  unchanged f [] d none = refl
  unchanged f (x ∷ xs) d none =
      rw (none 0 (omega arith)) (ap (λ zs. x ∷ zs) (unchanged f xs d (λ k less. none (suc k) (omega arith))))

  -- those that pass are changed, and none does
  pub map-unpassed : (f : A → A) (xs : List A) → position p xs ≡ None → map (λ x. if p x then f x else x) xs ≡ xs
  map-unpassed f [] none = refl
  map-unpassed f (x ∷ xs) none = unchanged f (x ∷ xs) x (λ k less. none_passes (x ∷ xs) none k x less)

  -- those that pass are changed, and one does
  pub map-one : (f : A → A) (xs : List A) (i : ℕ) (d : A) → i < length xs → p (get_or xs i d) ≡ true
      → ((k : ℕ) → k < length xs → k ≢ i → p (get_or xs k d) ≡ false) → map (λ x. if p x then f x else x) xs ≡ slice_set xs i (f (get_or xs i d))
  map-one f [] i d within here others = absurd (omega arith)
  map-one f (x ∷ xs) zero d within here others =
      rw here (ap (λ zs. f x ∷ zs) (unchanged f xs d (λ k less. others (suc k) (omega arith) (omega arith))))
  map-one f (x ∷ xs) (suc i) d within here others =
      rw (others 0 (omega arith) (omega arith)) (ap (λ zs. x ∷ zs) (map-one f xs i d (omega arith) here (λ k less other. others (suc k) (omega arith) (omega arith))))
