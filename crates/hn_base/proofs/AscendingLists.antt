-- Lists in strictly ascending order.
use Rattle.hn_base.proofs.Names.{◌≡◌, ◌↔◌, ℕ, ◌<◌, ◌≤◌, ◌+◌, Bool, IsTrue, true, false, List, [], ◌∷◌, ◌++◌, length, get_or, Contains, Result, Ok, Err, is_ok, Ordering, map, refl, sym, ◌∙◌, ap, subst}
use Rattle.hn_base.proofs.Names.{inl, inr, ◌⊎◌, ⊎_elim, arith, suc, zero, Less, Equal, Greater, IsTotalOrder, IsEquivalence, AllByRecursion, IsSearchInRange, IsBinarySearchResult, slice_cmp, is_eq}
use Rattle.hn_base.proofs.Names.{is_lt, eq_by_cmp, nat_cmp, on, then_cmp, ordering_reverse, ordering_then, cases_lt, tied_itself, by_ranked, All-from_recursion, All-contains, searchable_from_sorted}
use Rattle.hn_base.proofs.Names.{sorted_head, sorted_tail, Less-from_sorted, IsExact}
use Rattle.std.specs.List.{dedup}
use Rattle.std.specs.List.Sorted.{IsStrictlySortedBy, IsSorted}
use Rattle.std.proofs.lemmas.Cmp.{ranked}
use Rattle.std.proofs.lemmas.List.Kept.{Any-dedup, Contains-dedup, Contains-from_dedup}
use Rattle.hn_base.proofs.EachByRecursion.{AllByRecursion-push}

-- ---- Contains, element by element

pub Contains-head : {K : Type 0} (x : K) (xs : List K) → Contains (x ∷ xs) x
Contains-head x xs = (0, omega arith, refl)

pub Contains-tail : {K : Type 0} (x : K) (xs : List K) (y : K) → Contains xs y → Contains (x ∷ xs) y
Contains-tail x xs y (k, lt, at) = (suc k, omega (arith, lt), at)

pub Contains-cases : {K : Type 0} (x : K) (xs : List K) (y : K) → Contains (x ∷ xs) y → (x ≡ y) ⊎ Contains xs y
Contains-cases x xs y (zero, lt, at) = inl at
Contains-cases x xs y (suc k, lt, at) = inr (k, omega (arith, lt), at)

pub Contains-one : {K : Type 0} (x y : K) → Contains (x ∷ []) y → x ≡ y
Contains-one x y (zero, lt, at) = at
Contains-one x y (suc k, lt, at) = absurd (omega (arith, lt))

-- ---- tests by an exact order

pub equal_from_is_eq : (o : Ordering) → is_eq o ≡ true → o ≡ Equal
equal_from_is_eq Less h = absurd (cc)
equal_from_is_eq Equal h = refl
equal_from_is_eq Greater h = absurd (cc)

-- a test that agrees with an exact order holds of equal values only
pub exact_test : {K : Type 0} (R : K → K → Ordering) (E : K → K → Bool) → IsExact R → ((x y : K) → E x y ≡ eq_by_cmp R x y) → (x y : K) → E x y ≡ true → x ≡ y
exact_test R E exact ties x y h = exact x y (equal_from_is_eq (R x y) (sym (ties x y) ∙ h))

-- what `dedup` keeps
pub dedup_same : {K : Type 0} (R : K → K → Ordering) (E : K → K → Bool) → IsExact R → ((x y : K) → E x y ≡ eq_by_cmp R x y) → IsEquivalence E
    → (xs : List K) (x : K) → Contains (dedup E xs) x ↔ Contains xs x
dedup_same R E exact ties e xs x = (Contains-from_dedup E xs x, Contains-dedup e (exact_test R E exact ties) xs x)

-- ---- search

pub not_below_itself : {K : Type 0} (R : K → K → Ordering) → IsTotalOrder R → (x y : K) → x ≡ y → ¬ (R x y ≡ Less)
not_below_itself R o x y same less =
    let equal : R x x ≡ Equal = tied_itself o x in
    let turned : R x y ≡ R x x = ap (R x) (sym same) in
    cc

less_apart : {K : Type 0} (R : K → K → Ordering) → IsTotalOrder R → (x y : K) → R x y ≡ Less → is_lt (R y x) ≡ false
less_apart R o x y h = ap is_lt (o.antisymm y x ∙ ap ordering_reverse h)

pub sorted_from_strictly : {K : Type 0} (R : K → K → Ordering) → IsTotalOrder R → (xs : List K) → IsStrictlySortedBy R xs → IsSorted R xs
sorted_from_strictly R o xs up k d low high = less_apart R o _ _ (Less-from_sorted R xs k (k + 1) d up (omega arith) high)

pub found : {K : Type 0} (R : K → K → Ordering) → IsTotalOrder R → IsExact R → (xs : List K) (x : K) (r : Result ℕ ℕ) → IsStrictlySortedBy R xs
    → IsSearchInRange r (length xs) → IsBinarySearchResult (λ y. R y x) xs r → IsTrue (is_ok r) ↔ Contains xs x
found {K} R o exact xs x (Ok i) up within at = (λ t. (i, within, exact _ x (at x)), λ h. refl)
found {K} R o exact xs x (Err i) up within at =
    let parts = at (searchable_from_sorted o (λ (y : K). y) xs x (sorted_from_strictly R o xs up)) in
    let apart : Contains xs x → ⊥ = λ (k, lt, is).
    let equal : R (get_or xs k x) x ≡ Equal = subst (λ (y : K). R y x ≡ Equal) (sym is) (tied_itself o x) in
    ⊎_elim (λ (below : k < i). absurd (let less : R (get_or xs k x) x ≡ Less = parts.0 k x (omega arith) below in cc))
    (λ (above : i ≤ k). absurd (let greater : R (get_or xs k x) x ≡ Greater = parts.1 k x above lt in cc))
    (cases_lt k i) in
    (λ t. absurd (cc), λ h. absurd (apart h))

-- ---- one list for a set

pub nothing_in : {K : Type 0} (x : K) → ¬ (Contains {X = K} [] x)
nothing_in x (k, lt, at) = omega (arith, lt)

pub below_head : {K : Type 0} (R : K → K → Ordering) (x : K) (xs : List K) → IsStrictlySortedBy R (x ∷ xs) → (y : K) → Contains xs y → R x y ≡ Less
below_head {K} R x xs up y h = All-contains (λ (z : K). R x z ≡ Less) xs y (All-from_recursion (λ (z : K). R x z ≡ Less) xs (sorted_head R x xs up)) h

pub not_both : {K : Type 0} (R : K → K → Ordering) → IsTotalOrder R → (x y : K) → R x y ≡ Less → R y x ≡ Less → ⊥
not_both R o x y up down = let turned : R x y ≡ Greater = o.antisymm x y ∙ ap ordering_reverse down in cc

same_head : {K : Type 0} (R : K → K → Ordering) → IsTotalOrder R → (x y : K) (xs ys : List K) → IsStrictlySortedBy R (x ∷ xs) → IsStrictlySortedBy R (y ∷ ys)
    → ((z : K) → Contains (x ∷ xs) z ↔ Contains (y ∷ ys) z) → x ≡ y
same_head R o x y xs ys p q same =
    ⊎_elim (λ (e : y ≡ x). sym e)
    (λ (h : Contains ys x). ⊎_elim (λ (e : x ≡ y). e)
    (λ (g : Contains xs y). absurd (not_both R o x y (below_head R x xs p y g) (below_head R y ys q x h)))
    (Contains-cases x xs y ((same y).1 (Contains-head y ys))))
    (Contains-cases y ys x ((same x).0 (Contains-head x xs)))

-- an element after the first of one list is after that of the other
after_first : {K : Type 0} (R : K → K → Ordering) → IsTotalOrder R → (x y : K) (xs ys : List K) → x ≡ y → IsStrictlySortedBy R (x ∷ xs)
    → ((z : K) → Contains (x ∷ xs) z → Contains (y ∷ ys) z) → (z : K) → Contains xs z → Contains ys z
after_first R o x y xs ys heads p same z h =
    ⊎_elim (λ (e : y ≡ z). let less : R x z ≡ Less = below_head R x xs p z h in
    let equal : R z z ≡ Equal = tied_itself o z in
    let turned : R x z ≡ R z z = ap (λ v. R v z) (heads ∙ e) in
    absurd (cc))
    (λ (g : Contains ys z). g)
    (Contains-cases y ys z (same z (Contains-tail x xs z h)))

pub ascending_unique : {K : Type 0} (R : K → K → Ordering) → IsTotalOrder R → (xs ys : List K) → IsStrictlySortedBy R xs → IsStrictlySortedBy R ys
    → ((x : K) → Contains xs x ↔ Contains ys x) → xs ≡ ys
ascending_unique R o [] [] p q same = refl
ascending_unique R o [] (y ∷ ys) p q same = absurd (nothing_in y ((same y).1 (Contains-head y ys)))
ascending_unique R o (x ∷ xs) [] p q same = absurd (nothing_in x ((same x).0 (Contains-head x xs)))
ascending_unique R o (x ∷ xs) (y ∷ ys) p q same =
    let heads : x ≡ y = same_head R o x y xs ys p q same in
    let tails : xs ≡ ys = ascending_unique R o xs ys (sorted_tail R x xs p) (sorted_tail R y ys q)
    (λ z. (after_first R o x y xs ys heads p (λ v. (same v).0) z, after_first R o y x ys xs (sym heads) q (λ v. (same v).1) z)) in
    rw (heads, tails) refl

-- an element that is above all others goes to the end
pub sorted_push : {K : Type 0} (R : K → K → Ordering) (xs : List K) (x : K) → IsStrictlySortedBy R xs → ((y : K) → Contains xs y → R y x ≡ Less) → IsStrictlySortedBy R (xs ++ x ∷ [])
unfolding IsStrictlySortedBy
sorted_push R [] x up below = (tt, tt)
sorted_push R (y ∷ ys) x up below = (
  AllByRecursion-push (λ z. R y z ≡ Less) ys x up.0 (below y (Contains-head y ys)),
  sorted_push R ys x up.1 (λ z h. below z (Contains-tail y ys z h)),
)

-- ---- order by a part of each element

each_part : {K J : Type 0} (f : K → J) (P : J → Type 0) (xs : List K) → AllByRecursion (λ x. P (f x)) xs ↔ AllByRecursion P (map f xs)
each_part f P [] = (λ _. tt, λ _. tt)
each_part f P (x ∷ xs) = let rest = each_part f P xs in (λ p. (p.0, rest.0 p.1), λ p. (p.0, rest.1 p.1))

-- a list in order by a part of its elements is, part by part, in order
pub sorted_parts : {K J : Type 0} (f : K → J) (R : J → J → Ordering) (xs : List K) → IsStrictlySortedBy (on f R) xs ↔ IsStrictlySortedBy R (map f xs)
unfolding IsStrictlySortedBy
sorted_parts f R [] = (λ _. tt, λ _. tt)
sorted_parts f R (x ∷ xs) =
    let rest = sorted_parts f R xs in
    let first = each_part f (λ j. R (f x) j ≡ Less) xs in
    (λ p. (first.0 p.0, rest.0 p.1), λ p. (first.1 p.0, rest.1 p.1))

-- ---- sets seen by a part of each element

pub Contains-map : {K J : Type 0} (f : K → J) (xs : List K) (x : K) → Contains xs x → Contains (map f xs) (f x)
Contains-map f [] x h = absurd (nothing_in x h)
Contains-map {K} {J} f (y ∷ ys) x h =
    ⊎_elim (λ (e : y ≡ x). subst (λ (j : J). Contains (f y ∷ map f ys) j) (ap f e) (Contains-head (f y) (map f ys)))
    (λ (g : Contains ys x). Contains-tail (f y) (map f ys) (f x) (Contains-map f ys x g))
    (Contains-cases y ys x h)

pub Contains-from_map : {K J : Type 0} (f : K → J) (xs : List K) (j : J) → Contains (map f xs) j → (x : K) × Contains xs x × (f x ≡ j)
Contains-from_map f [] j h = absurd (nothing_in j h)
Contains-from_map f (y ∷ ys) j h =
    ⊎_elim (λ (e : f y ≡ j). (y, Contains-head y ys, e))
    (λ (g : Contains (map f ys) j). let found = Contains-from_map f ys j g in (found.0, Contains-tail y ys found.0 found.1, found.2))
    (Contains-cases (f y) (map f ys) j h)

-- what `dedup` keeps, where its test agrees with an exact order of a part
pub dedup_parts_same : {K J : Type 0} (f : K → J) (R : J → J → Ordering) (E : K → K → Bool) → IsExact R → ((x y : K) → E x y ≡ eq_by_cmp R (f x) (f y)) → IsEquivalence E
    → (xs : List K) (j : J) → Contains (map f (dedup E xs)) j ↔ Contains (map f xs) j
dedup_parts_same {K} {J} f R E exact ties e xs j = (
  λ h. let found = Contains-from_map f (dedup E xs) j h in
      subst (λ (i : J). Contains (map f xs) i) found.2 (Contains-map f xs found.0 (Contains-from_dedup E xs found.0 found.1)),
  λ h. let found = Contains-from_map f xs j h in
      let (k, y, lt, at, same) = Any-dedup e xs found.0 found.1 in
      let part : f found.0 ≡ f y = exact (f found.0) (f y) (equal_from_is_eq (R (f found.0) (f y)) (sym (ties found.0 y) ∙ same)) in
      subst (λ (i : J). Contains (map f (dedup E xs)) i) (sym part ∙ found.2) (Contains-map f (dedup E xs) y (k, lt, at)),
)

-- ---- the order of numbers, and of lists

pub exact_nat : IsExact nat_cmp
exact_nat x y h = by_ranked (x < y) (x ≡ y) (y < x) (nat_cmp x y) (ranked x y (nat_cmp x y) refl) (λ less _. absurd (cc)) (λ _ e. e) (λ greater _. absurd (cc))

pub both_equal : (a b : Ordering) → ordering_then a b ≡ Equal → (a ≡ Equal) × (b ≡ Equal)
both_equal Less b h = absurd (cc)
both_equal Equal b h = (refl, h)
both_equal Greater b h = absurd (cc)

-- the order by two parts that tell an element, each in an exact order
pub exact_then : {K A B : Type 0} (f : K → A) (g : K → B) (R : A → A → Ordering) (S : B → B → Ordering) → IsExact R → IsExact S
    → ((x y : K) → f x ≡ f y → g x ≡ g y → x ≡ y) → IsExact (then_cmp (on f R) (on g S))
exact_then f g R S exact_R exact_S told x y h =
    let both = both_equal (R (f x) (f y)) (S (g x) (g y)) h in
    told x y (exact_R (f x) (f y) both.0) (exact_S (g x) (g y) both.1)

-- lists in the order of an exact order of their elements
pub exact_lists : {K : Type 0} (R : K → K → Ordering) → IsExact R → IsExact (slice_cmp R)
exact_lists R exact [] [] h = refl
exact_lists R exact [] (y ∷ ys) h = absurd (cc)
exact_lists R exact (x ∷ xs) [] h = absurd (cc)
exact_lists R exact (x ∷ xs) (y ∷ ys) h =
    let both = both_equal (R x y) (slice_cmp R xs ys) h in
    rw (exact x y both.0, exact_lists R exact xs ys both.1) refl
