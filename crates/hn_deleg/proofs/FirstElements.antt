-- The first elements of a list, and lists in strictly ascending order.
use Rattle.hn_base.proofs.Names.{◌≡◌, ◌⊎◌, ℕ, List, [], ◌∷◌, length, take, Contains, Ordering, refl, ap, subst, inl, inr, ⊎_elim, suc, zero, Less, All-contains, All-contains_itself, All-take}
use Rattle.hn_base.proofs.Names.{All-from_recursion, recursion_from_All, sorted_tail}
use Rattle.hn_deleg.proofs.Names.{Contains-head, Contains-tail, Contains-cases, nothing_in}
use Rattle.std.specs.List.Sorted.{IsStrictlySortedBy}
use Rattle.hn_base.proofs.AscendingLists.{below_head}

-- ---- the first elements

pub Contains-from_take : {K : Type 0} (n : ℕ) (xs : List K) (x : K) → Contains (take n xs) x → Contains xs x
Contains-from_take n xs x h = All-contains (Contains xs) (take n xs) x (All-take (Contains xs) n xs (All-contains_itself xs)) h

-- ---- lists in strictly ascending order

pub sorted_take : {K : Type 0} (R : K → K → Ordering) (n : ℕ) (xs : List K) → IsStrictlySortedBy R xs → IsStrictlySortedBy R (take n xs)
unfolding IsStrictlySortedBy
sorted_take R zero xs up = tt
sorted_take R (suc n) [] up = tt
sorted_take {K} R (suc n) (x ∷ xs) up = (
  recursion_from_All (λ (y : K). R x y ≡ Less) (take n xs) (All-take (λ (y : K). R x y ≡ Less) n xs (All-from_recursion (λ (y : K). R x y ≡ Less) xs up.0)),
  sorted_take R n xs up.1,
)

-- an element is among the first n, or there are n of them and each is less
pub taken_or_after : {K : Type 0} (R : K → K → Ordering) (n : ℕ) (xs : List K) (x : K) → IsStrictlySortedBy R xs → Contains xs x
    → Contains (take n xs) x ⊎ ((length (take n xs) ≡ n) × ((y : K) → Contains (take n xs) y → R y x ≡ Less))
taken_or_after R zero xs x up h = inr (refl, λ y c. absurd (nothing_in y c))
taken_or_after R (suc n) [] x up h = absurd (nothing_in x h)
taken_or_after {K} R (suc n) (y ∷ ys) x up h =
    ⊎_elim (λ (e : y ≡ x). inl (subst (Contains (y ∷ take n ys)) e (Contains-head y (take n ys))))
    (λ (rest : Contains ys x).
    ⊎_elim (λ (in_first : Contains (take n ys) x). inl (Contains-tail y (take n ys) x in_first))
    (λ (after : (length (take n ys) ≡ n) × ((z : K) → Contains (take n ys) z → R z x ≡ Less)).
    inr (
      ap suc after.0,
      λ z c. ⊎_elim
          (λ (e : y ≡ z). subst (λ (v : K). R v x ≡ Less) e (below_head R y ys up x rest))
          (λ (later : Contains (take n ys) z). after.1 z later)
          (Contains-cases y (take n ys) z c),
    ))
    (taken_or_after R n ys x (sorted_tail R y ys up) rest))
    (Contains-cases y ys x h)
