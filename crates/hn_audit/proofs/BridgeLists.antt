-- What lists have, element by element.
use Rattle.hn_base.proofs.Names.{◌≡◌, ◌∙◌, suc, zero, Bool, true, false, List, [], ◌∷◌, Contains, length, filter, refl, sym, arith, count_by, length-filter}
use Rattle.hn_audit.proofs.Names.{in_filter, from_filter, Contains-head, nothing_in}

-- ---- a list of one

two_of_one : {X : Type 0} (xs : List X) → length xs ≡ 1 → (x y : X) → Contains xs x → Contains xs y → x ≡ y
two_of_one [] is x y there also = absurd (nothing_in x there)
two_of_one {X} (z ∷ xs) is x y there also = sym (only x there) ∙ only y also
  where
    only : (v : X) → Contains (z ∷ xs) v → z ≡ v
    only v (zero, lt, at) = at
    only v (suc k, lt, at) = absurd (omega (arith, lt, is))

one_of_one : {X : Type 0} (xs : List X) → length xs ≡ 1 → (x : X) × Contains xs x
one_of_one [] is = absurd (omega (arith, is))
one_of_one (x ∷ xs) is = (x, Contains-head x xs)

-- one passes the test, and no two do
pub one_passes : {X : Type 0} (test : X → Bool) (xs : List X) → count_by test xs ≡ 1 → (x : X) × Contains xs x × (test x ≡ true)
one_passes test xs is =
    let found = one_of_one (filter test xs) (length-filter test xs ∙ is) in
    let of = from_filter test xs found.0 found.1 in
    (found.0, of.0, of.1)

pub two_pass : {X : Type 0} (test : X → Bool) (xs : List X) → count_by test xs ≡ 1 → (x y : X) → Contains xs x → test x ≡ true → Contains xs y → test y ≡ true → x ≡ y
two_pass test xs is x y there passes also passes_too =
    two_of_one (filter test xs) (length-filter test xs ∙ is) x y (in_filter test xs x there passes) (in_filter test xs y also passes_too)

-- ---- tests

pub same_Bool : (a b : Bool) → (a ≡ true → b ≡ true) → (b ≡ true → a ≡ true) → a ≡ b
same_Bool true true to back = refl
same_Bool true false to back = sym (to refl)
same_Bool false true to back = back refl
same_Bool false false to back = refl
