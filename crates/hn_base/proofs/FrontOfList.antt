-- The elements before a place: one more of them, and a test that they alone pass or fail.
use Rattle.hn_base.proofs.Names.{◌≡◌, ◌<◌, ◌≤◌, ℕ, zero, suc, Bool, true, false, List, [], ◌∷◌, length, filter, take, drop, get_or, Some, None, refl, sym, ap, arith, ◌∙◌, ◌+◌, ◌++◌, slice_get, find}
use Rattle.hn_base.proofs.Names.{take_more, take_at, drop_at, get_or_from_slice_get, slice_get_within}
use Rattle.std.proofs.Math.Seq.{take-nil, drop-nil}

-- ---- the first elements

-- one more of them
pub front_more : {X : Type 0} (xs : List X) (i : ℕ) (x : X) → i < length xs → x ≡ get_or xs i x → take (i + 1) xs ≡ take i xs ++ x ∷ []
front_more xs i x within is = take_more xs i x within ∙ ap (λ y. take i xs ++ y ∷ []) (sym is)

pub front_at : {X : Type 0} (xs : List X) (i : ℕ) (x : X) → slice_get xs i ≡ Some x → take (i + 1) xs ≡ take i xs ++ x ∷ []
front_at xs i x at = front_more xs i x (slice_get_within xs i x at) (sym (get_or_from_slice_get xs i x x at))

-- two lists of two parts each, where the first parts have one length
pub same_parts : {X : Type 0} (p q s t : List X) → length p ≡ length q → p ++ s ≡ q ++ t → (p ≡ q) × (s ≡ t)
same_parts p q s t len e = (
  sym (take_at p s (length q) len) ∙ ap (take (length q)) e ∙ take_at q t (length q) refl,
  sym (drop_at p s (length q) len) ∙ ap (drop (length q)) e ∙ drop_at q t (length q) refl,
)

-- lists that are the same have the same first element, and the same others
pub head_is : {X : Type 0} {x y : X} {xs ys : List X} → x ∷ xs ≡ y ∷ ys → x ≡ y
head_is e = cc

pub tail_is : {X : Type 0} {x y : X} {xs ys : List X} → x ∷ xs ≡ y ∷ ys → xs ≡ ys
tail_is e = cc

-- ---- a test

filter_none : {X : Type 0} (p : X → Bool) (xs : List X) → ((k : ℕ) (d : X) → k < length xs → p (get_or xs k d) ≡ false) → filter p xs ≡ []
filter_none p [] none = refl
filter_none p (x ∷ xs) none = rw (none 0 x (omega arith)) (filter_none p xs (λ k d lt. none (suc k) d (omega arith)))

filter_all : {X : Type 0} (p : X → Bool) (xs : List X) → ((k : ℕ) (d : X) → k < length xs → p (get_or xs k d) ≡ true) → filter p xs ≡ xs
filter_all p [] all = refl
filter_all p (x ∷ xs) all = rw (all 0 x (omega arith)) (ap (λ ys. x ∷ ys) (filter_all p xs (λ k d lt. all (suc k) d (omega arith))))

pub filter-front : {X : Type 0} (p : X → Bool) (xs : List X) (i : ℕ) → ((k : ℕ) (d : X) → k < i → k < length xs → p (get_or xs k d) ≡ true)
    → ((k : ℕ) (d : X) → i ≤ k → k < length xs → p (get_or xs k d) ≡ false) → filter p xs ≡ take i xs
filter-front p [] i front back = sym (take-nil i)
filter-front p (x ∷ xs) zero front back = filter_none p (x ∷ xs) (λ k d lt. back k d (omega arith) lt)
filter-front p (x ∷ xs) (suc i) front back =
    rw (front 0 x (omega arith) (omega arith)) (ap (λ ys. x ∷ ys)
    (filter-front p xs i (λ k d lt in'. front (suc k) d (omega arith) (omega arith)) (λ k d le lt. back (suc k) d (omega arith) (omega arith))))

pub filter-back : {X : Type 0} (p : X → Bool) (xs : List X) (i : ℕ) → ((k : ℕ) (d : X) → k < i → k < length xs → p (get_or xs k d) ≡ false)
    → ((k : ℕ) (d : X) → i ≤ k → k < length xs → p (get_or xs k d) ≡ true) → filter p xs ≡ drop i xs
filter-back p [] i front back = sym (drop-nil i)
filter-back p (x ∷ xs) zero front back = filter_all p (x ∷ xs) (λ k d lt. back k d (omega arith) lt)
filter-back p (x ∷ xs) (suc i) front back =
    rw (front 0 x (omega arith) (omega arith)) (filter-back p xs i (λ k d lt in'. front (suc k) d (omega arith) (omega arith)) (λ k d le lt. back (suc k) d (omega arith) (omega arith)))

pub find-at : {X : Type 0} (p : X → Bool) (xs : List X) (i : ℕ) (d : X) → i < length xs → ((k : ℕ) (e : X) → k < i → p (get_or xs k e) ≡ false)
    → p (get_or xs i d) ≡ true → find p xs ≡ Some (get_or xs i d)
find-at p [] i d lt before here = absurd (omega arith)
find-at p (x ∷ xs) zero d lt before here = rw here refl
find-at p (x ∷ xs) (suc i) d lt before here = rw (before 0 x (omega arith)) (find-at p xs i d (omega arith) (λ k e less. before (suc k) e (omega arith)) here)

pub find-none : {X : Type 0} (p : X → Bool) (xs : List X) → ((k : ℕ) (d : X) → k < length xs → p (get_or xs k d) ≡ false) → find p xs ≡ None
find-none p [] none = refl
find-none p (x ∷ xs) none = rw (none 0 x (omega arith)) (find-none p xs (λ k d lt. none (suc k) d (omega arith)))
