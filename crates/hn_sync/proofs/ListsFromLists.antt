-- Elements of lists that were made of others.
use Rattle.hn_base.proofs.Names.{◌≡◌, ◌≢◌, ◌∙◌, ◌⊎◌, ℕ, zero, suc, Bool, true, false, cond, List, [], ◌∷◌, ◌++◌, length, position, slice_get, slice_set, nat_lt, Contains, Option, Some, None, sym, ap}
use Rattle.hn_base.proofs.Names.{refl, inl, inr, flat_map, position_or_len, Contains-append_cases, find_at, same_Some}
use Rattle.hn_sync.proofs.Names.{find, nothing_in, Contains-head, Contains-tail, contains_at}

-- an element that was put, and the others
pub set_is : {A : Type 0} (xs : List A) (i : ℕ) (x y : A) → slice_get xs i ≡ Some x → slice_get (slice_set xs i y) i ≡ Some y
set_is [] i x y at = absurd (cc)
set_is (z ∷ zs) zero x y at = refl
set_is (z ∷ zs) (suc i) x y at = set_is zs i x y at

pub set_other : {A : Type 0} (xs : List A) (i k : ℕ) (y : A) → k ≢ i → slice_get (slice_set xs i y) k ≡ slice_get xs k
set_other [] i k y other = refl
set_other (z ∷ zs) zero zero y other = absurd (other refl)
set_other (z ∷ zs) zero (suc k) y other = refl
set_other (z ∷ zs) (suc i) zero y other = refl
set_other (z ∷ zs) (suc i) (suc k) y other = set_other zs i k y (λ same. other (ap suc same))

-- what stands after that is the one that was put, or stood there before
pub set_cases : {A : Type 0} (xs : List A) (i k : ℕ) (x y : A) → slice_get (slice_set xs i y) k ≡ Some x → (x ≡ y) ⊎ (slice_get xs k ≡ Some x)
set_cases [] i k x y at = inr at
set_cases (z ∷ zs) zero zero x y at = inl (sym (same_Some y x at))
set_cases (z ∷ zs) zero (suc k) x y at = inr at
set_cases (z ∷ zs) (suc i) zero x y at = inr at
set_cases (z ∷ zs) (suc i) (suc k) x y at = set_cases zs i k x y at

-- what stands in a list with further elements is one of these, or stood there before
pub append_cases : {A : Type 0} (xs ys : List A) (k : ℕ) (x : A) → slice_get (xs ++ ys) k ≡ Some x → (slice_get xs k ≡ Some x) ⊎ Contains ys x
append_cases [] ys k x at = inr (contains_at ys k x at)
append_cases (z ∷ zs) ys zero x at = inl at
append_cases (z ∷ zs) ys (suc k) x at = append_cases zs ys k x at

-- what is in a list that is made of lists is in one of them
pub flat_there : {A B : Type 0} (made : A → List B) (xs : List A) (y : B) → Contains (flat_map made xs) y → (x : A) × Contains xs x × Contains (made x) y
flat_there made [] y there = absurd (nothing_in y there)
flat_there made (x ∷ xs) y there = elim (Contains-append_cases (made x) (flat_map made xs) y there) [
  | inl here ↦ (x, Contains-head x xs, here)
  | inr later ↦ (let rest = flat_there made xs y later in (rest.0, Contains-tail x xs rest.0 rest.1, rest.2))
]

-- the first that passes stands at its place
pub position_is : {A : Type 0} (p : A → Bool) (xs : List A) (i : ℕ) → position p xs ≡ Some i → position_or_len p xs ≡ i
position_is p xs i found = by_test (nat_lt (position_or_len p xs) (length xs)) found
  where
    by_test : (b : Bool) → ◌≡◌ {A = Option ℕ} (cond b (Some (position_or_len p xs)) None) (Some i) → position_or_len p xs ≡ i
    by_test true e = cc
    by_test false e = absurd (cc)

pub stands : {A : Type 0} (p : A → Bool) (xs : List A) (i : ℕ) (x : A) → position p xs ≡ Some i → find p xs ≡ Some x → slice_get xs i ≡ Some x
stands p xs i x found is = sym (ap (slice_get xs) (position_is p xs i found)) ∙ sym (find_at p xs) ∙ is
