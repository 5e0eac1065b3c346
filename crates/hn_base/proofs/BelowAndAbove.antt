-- An element at its place: after those below it and before those above it.
use Rattle.hn_base.proofs.Names.{◌≡◌, ◌<◌, ◌≤◌, ◌+◌, ℕ, suc, Bool, true, false, cond, Ordering, List, [], ◌∷◌, ◌++◌, length, filter, refl, inl, inr, arith, All, Less, IsTotalOrder, AllByRecursion}
use Rattle.hn_base.proofs.Names.{list_any, or_cases, All-append, All-cons, All-from_recursion, All-weaker, recursion_from_All}
use Rattle.std.specs.List.Sorted.{IsStrictlySortedBy}

-- a list, an element after it, and a list after that
pub sorted_around : {K : Type 0} (R : K → K → Ordering) → IsTotalOrder R → (xs : List K) (y : K) (ys : List K) → IsStrictlySortedBy R xs → AllByRecursion (λ x. R x y ≡ Less) xs
    → IsStrictlySortedBy R ys → AllByRecursion (λ z. R y z ≡ Less) ys → IsStrictlySortedBy R (xs ++ y ∷ ys)
unfolding IsStrictlySortedBy
sorted_around R total [] y ys first before second after = (after, second)
sorted_around {K} R total (x ∷ xs) y ys first before second after =
    let P : K → Type 0 = λ z. R x z ≡ Less in
    let past : All P ys = All-weaker (λ z. R y z ≡ Less) P (λ z less. total.trans x y z before.0 less) ys (All-from_recursion (λ z. R y z ≡ Less) ys after) in (
      recursion_from_All P (xs ++ y ∷ ys) (All-append P xs (y ∷ ys) (All-from_recursion P xs first.0) (All-cons P y ys before.0 past)),
      sorted_around R total xs y ys first.1 before.1 second after,
    )

-- ---- how many are below and above

module _ {A : Type 0} (below above same : A → Bool) (apart : (x : A) → below x ≡ true → above x ≡ false) where
  one_more : (b c : Bool) (x : A) (xs ys : List A) (n : ℕ) → (b ≡ true → c ≡ false) → length xs + length ys ≤ n → length (cond b (x ∷ xs) xs) + length (cond c (x ∷ ys) ys) ≤ suc n
  one_more true true x xs ys n other few = absurd (let clash = other refl in cc)
  one_more true false x xs ys n other few = omega arith
  one_more false true x xs ys n other few = omega arith
  one_more false false x xs ys n other few = omega arith

  pub few_apart : (xs : List A) → length (filter below xs) + length (filter above xs) ≤ length xs
  few_apart [] = omega arith
  few_apart (x ∷ xs) = one_more (below x) (above x) x (filter below xs) (filter above xs) (length xs) (apart x) (few_apart xs)

  -- where one is neither
  pub fewer_apart : ((x : A) → same x ≡ true → (below x ≡ false) × (above x ≡ false)) → (xs : List A) → list_any same xs ≡ true → length (filter below xs) + length (filter above xs) < length xs
  fewer_apart none [] some = absurd cc
  fewer_apart none (x ∷ xs) some =
      elim (or_cases (same x) (list_any same xs) some) [
        | inl is ↦ let few = few_apart xs in rw ((none x is).0, (none x is).1) (omega arith)
        | inr more ↦
            let fewer = fewer_apart none xs more in
            let one = one_more (below x) (above x) x (filter below xs) (filter above xs) (length (filter below xs) + length (filter above xs)) (apart x) (omega arith) in
            omega arith
      ]
