-- A list without repetition whose elements are all in another list has no greater a sum than that.
use Rattle.hn_base.proofs.Names.{◌≡◌, ◌≢◌, ◌≤◌, ◌+◌, ◌∙◌, ℕ, Bool, false, List, [], ◌∷◌, ◌++◌, take, drop, Contains, Decides, sym, ap, subst, arith, inl, inr, sum_by, false≢true, drop_more}
use Rattle.hn_base.proofs.Names.{take-append-drop, All-contains, All-from_recursion, Contains-append_cases, Contains-append_left, Contains-append_right, sum_by-append, sum_by-cons}
use Rattle.std.specs.List.{IsDistinct}
use Rattle.hn_base.proofs.AscendingLists.{Contains-head, Contains-tail, Contains-cases}

-- a list around one of its elements
record IsAround {K : Type 0} (ys : List K) (x : K) : Type 0 where
  front : List K
  back : List K
  split : ys ≡ front ++ x ∷ back

around : {K : Type 0} (ys : List K) (x : K) → Contains ys x → IsAround ys x
around ys x found = record {
  front = take found.0 ys;
  back = drop (found.0 + 1) ys;
  split = sym (take-append-drop found.0 ys) ∙ ap (λ rest. take found.0 ys ++ rest) (drop_more ys found.0 x found.1 ∙ ap (λ y. y ∷ drop (found.0 + 1) ys) found.2);
}

-- another element is before it or after it
elsewhere : {K : Type 0} (front back : List K) (x z : K) → x ≢ z → Contains (front ++ x ∷ back) z → Contains (front ++ back) z
elsewhere front back x z other found =
    elim (Contains-append_cases front (x ∷ back) z found) [
      | inl before ↦ Contains-append_left front back z before
      | inr from ↦ elim (Contains-cases x back z from) [
        | inl here ↦ absurd (other here)
        | inr after ↦ Contains-append_right front back z after
      ]
    ]

pub sum_by-le_from_Contains : {K : Type 0} {eq : K → K → Bool} (f : K → ℕ) → ((a b : K) → Decides (eq a b) (a ≡ b)) → (xs ys : List K) → IsDistinct eq xs
    → ((x : K) → Contains xs x → Contains ys x) → sum_by f xs ≤ sum_by f ys
unfolding IsDistinct
sum_by-le_from_Contains {K} {eq} f same [] ys once each = omega arith
sum_by-le_from_Contains {K} {eq} f same (x ∷ xs) ys once each =
    let parts = around ys x (each x (Contains-head x xs)) in
    let apart : (z : K) → Contains xs z → x ≢ z =
    λ z within here. false≢true (sym (All-contains (λ (y : K). eq x y ≡ false) xs z (All-from_recursion (λ (y : K). eq x y ≡ false) xs once.0) within) ∙ (same x z).1 here)
    in
    let rest = sum_by-le_from_Contains f same xs (parts.front ++ parts.back) once.1
    (λ z within. elsewhere parts.front parts.back x z (apart z within) (subst (λ (l : List K). Contains l z) parts.split (each z (Contains-tail x xs z within))))
    in
    let whole = ap (sum_by f) parts.split ∙ sum_by-append f parts.front (x ∷ parts.back) in
    omega (arith, sum_by-cons f x xs, sum_by-cons f x parts.back, sum_by-append f parts.front parts.back)
