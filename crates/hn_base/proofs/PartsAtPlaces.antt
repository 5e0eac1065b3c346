-- Elements at their places, and lists seen by a part of each element.
use Rattle.hn_base.proofs.Names.{◌≡◌, ℕ, ◌<◌, ◌≤◌, List, [], ◌∷◌, ◌++◌, length, get_or, map, Option, Some, None, option_to_list, Ok, Err, Result, Ordering, MatchResult, Contains, refl, sym, ◌∙◌, ap}
use Rattle.hn_base.proofs.Names.{subst, ⊎_elim, arith, slice_get, suc, zero, Less, Equal, Greater, IsTotalOrder, filter_map, cons_option, IsStrictlySortedBy, IsSearchInRange, IsBinarySearchResult}
use Rattle.hn_base.proofs.Names.{option_map, on, nat_cmp, cases_lt, on_total, tied_itself, nat_cmp_total, length-map, filter_map-append, searchable_from_sorted, below_from_sorted, Less-from_sorted}
use Rattle.hn_base.proofs.Names.{slice_get-map, slice_get_read, slice_get-get_or, same_Some, none-some, get_or_from_slice_get, slice_get_within, IsExact}
use Rattle.hn_base.proofs.AscendingLists.{sorted_from_strictly, sorted_parts, not_below_itself}
use Rattle.hn_base.proofs.Elements.{one_of_apart}

-- the element that has a part which stands at a place of the parts
pub part_at : {K J : Type 0} (f : K → J) (xs : List K) (k : ℕ) (j : J) → slice_get (map f xs) k ≡ Some j → (x : K) × (slice_get xs k ≡ Some x) × (f x ≡ j)
part_at f [] k j at = absurd (none-some j at)
part_at f (x ∷ xs) zero j at = (x, refl, same_Some (f x) j at)
part_at f (x ∷ xs) (suc k) j at = part_at f xs k j at

-- the same, where the parts have it at some place
pub part_of : {K J : Type 0} (f : K → J) (xs : List K) (j : J) → Contains (map f xs) j → (k : ℕ) × (x : K) × (slice_get xs k ≡ Some x) × (f x ≡ j)
part_of f xs j (k, lt, is) =
    let p = part_at f xs k j (slice_get_read (map f xs) (length (map f xs)) k j refl lt (sym is)) in
    (k, p.0, p.1, p.2)

pub part_stands : {K J : Type 0} (f : K → J) (xs : List K) (k : ℕ) (x : K) → slice_get xs k ≡ Some x → slice_get (map f xs) k ≡ Some (f x)
part_stands f xs k x at = slice_get-map f xs k ∙ ap (option_map f) at

-- a binary search by a part of the elements, which ascend by it
pub found_by : {K J : Type 0} (f : K → J) (R : J → J → Ordering) → IsTotalOrder R → IsExact R → (xs : List K) (j : J) (r : Result ℕ ℕ) → IsStrictlySortedBy R (map f xs)
    → IsSearchInRange r (length xs) → IsBinarySearchResult (λ x. R (f x) j) xs r
    → MatchResult r (λ i. (i < length xs) × (slice_get (map f xs) i ≡ Some j)) (λ _. ¬ (Contains (map f xs) j))
found_by {K} {J} f R o exact xs j (Ok i) up within at =
    let lt : i < length (map f xs) = simp length-map within in
    let here = slice_get-get_or (map f xs) i j lt in
    let p = part_at f xs i (get_or (map f xs) i j) here in
    let read : get_or xs i p.0 ≡ p.0 = get_or_from_slice_get xs i p.0 p.0 p.1 in
    let same : f p.0 ≡ j = exact (f p.0) j (subst (λ (x : K). R (f x) j ≡ Equal) read (at p.0)) in
    (within, part_stands f xs i p.0 p.1 ∙ ap Some same)
found_by {K} {J} f R o exact xs j (Err i) up within at =
    let sorted = sorted_from_strictly (on f R) (on_total f o) xs ((sorted_parts f R xs).1 up) in
    let parts = at (searchable_from_sorted o f xs j sorted) in
    λ h.
    let p = part_of f xs j h in
    let lt : p.0 < length xs = slice_get_within xs p.0 p.1 p.2 in
    let read : get_or xs p.0 p.1 ≡ p.1 = get_or_from_slice_get xs p.0 p.1 p.1 p.2 in
    let equal : R (f (get_or xs p.0 p.1)) j ≡ Equal = rw (read, p.3) (tied_itself o j) in
    ⊎_elim (λ (below : p.0 < i). absurd (let less : R (f (get_or xs p.0 p.1)) j ≡ Less = parts.0 p.0 p.1 (omega arith) below in cc))
    (λ (above : i ≤ p.0). absurd (let greater : R (f (get_or xs p.0 p.1)) j ≡ Greater = parts.1 p.0 p.1 above lt in cc))
    (cases_lt p.0 i)

-- numbers that ascend stand at one place each
pub one_place : (xs : List ℕ) → IsStrictlySortedBy nat_cmp xs → (i k j : ℕ) → slice_get xs i ≡ Some j → slice_get xs k ≡ Some j → i ≡ k
one_place xs up i k j a b =
    let lt_i : i < length xs = slice_get_within xs i j a in
    let lt_k : k < length xs = slice_get_within xs k j b in
    let read_i : get_or xs i 0 ≡ j = get_or_from_slice_get xs i j 0 a in
    let read_k : get_or xs k 0 ≡ j = get_or_from_slice_get xs k j 0 b in
    ⊎_elim (λ (below : i < k). absurd (let less = below_from_sorted xs i k 0 up below lt_k in omega (arith, less)))
    (λ (rest : k ≤ i). ⊎_elim (λ (above : k < i). absurd (let less = below_from_sorted xs k i 0 up above lt_i in omega (arith, less)))
    (λ (le : i ≤ k). omega arith) (cases_lt k i))
    (cases_lt i k)

pub contains_at : {K : Type 0} (xs : List K) (k : ℕ) (x : K) → slice_get xs k ≡ Some x → Contains xs x
contains_at xs k x at = (k, slice_get_within xs k x at, get_or_from_slice_get xs k x x at)

-- the element at a place has the part that stands there
pub part_is : {K J : Type 0} (f : K → J) (xs : List K) (k : ℕ) (j : J) (x : K) → slice_get xs k ≡ Some x → slice_get (map f xs) k ≡ Some j → f x ≡ j
part_is f xs k j x at is = same_Some (f x) j (sym (part_stands f xs k x at) ∙ is)

-- elements whose parts ascend, and with equal parts, stand at one place
pub one_place_of : {K : Type 0} (f : K → ℕ) (xs : List K) → IsStrictlySortedBy nat_cmp (map f xs) → (i k : ℕ) (x y : K) → slice_get xs i ≡ Some x → slice_get xs k ≡ Some y → f x ≡ f y → i ≡ k
one_place_of f xs up i k x y at there same = one_place (map f xs) up i k (f y) (part_stands f xs i x at ∙ ap Some same) (part_stands f xs k y there)

-- of elements whose parts ascend no two have one part
pub one_of_ascending : {X K : Type 0} (f : X → K) (R : K → K → Ordering) → IsTotalOrder R → (xs : List X) → IsStrictlySortedBy (on f R) xs
    → (x y : X) → Contains xs x → Contains xs y → f x ≡ f y → x ≡ y
one_of_ascending {X} f R total xs up x y there also same =
    one_of_apart (λ (a b : X). R (f a) (f b) ≡ Less) xs (λ i j d before under. Less-from_sorted (on f R) xs i j d up before under) x y there also
    (not_below_itself R total (f x) (f y) same) (not_below_itself R total (f y) (f x) (sym same))

-- so it is with the element at a place
pub one_element : {K : Type 0} (f : K → ℕ) (xs : List K) → IsStrictlySortedBy nat_cmp (map f xs) → (place : ℕ) (x y : K) → slice_get xs place ≡ Some x → Contains xs y → f y ≡ f x → y ≡ x
one_element f xs up place x y at there same =
    one_of_ascending f nat_cmp nat_cmp_total xs ((sorted_parts f nat_cmp xs).1 up) y x there (contains_at xs place x at) same

-- parts that some elements have, and one element more
pub filter_map-push : {K J : Type 0} (f : K → Option J) (xs : List K) (x : K) → filter_map f (xs ++ x ∷ []) ≡ filter_map f xs ++ option_to_list (f x)
filter_map-push {K} {J} f xs x = filter_map-append f xs (x ∷ []) ∙ ap (λ ys. filter_map f xs ++ ys) (one_part (f x))
  where
    one_part : (o : Option J) → cons_option o [] ≡ option_to_list o
    one_part None = refl
    one_part (Some j) = refl
