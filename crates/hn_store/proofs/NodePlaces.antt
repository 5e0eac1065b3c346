-- What the place of a node says of the map.
use Rattle.hn_base.proofs.Names.{◌≡◌, ◌∙◌, ◌<◌, ◌≤◌, ℕ, suc, false, List, length, filter, take, drop, get_or, set, Some, None, Result, Ok, Err, sym, ap, inl, inr, arith, insert, IfOk, IfErr, ◌==◌}
use Rattle.hn_base.proofs.Names.{option_map, HoldsAt, IsStrictlySortedBy, IsSearchInRange, IsBinarySearchResult, IsNonDecreasingBy, nat_cmp, nat_tests, lt-ltb, le-ltb, eq-eqb, ne_eqb, cases_lt}
use Rattle.hn_base.proofs.Names.{ranked, ordering_index, Less, Equal, Greater, get_or_default, get_or-map, length-map, set_split, below_from_sorted}
use Rattle.hn_store.proofs.Names.{nat_lt, find-none, Stored, HeldNode, ids_of_held, held, entry, put, IsPlaceOf, IsGapFor}
use Rattle.hn_base.proofs.FrontOfList.{filter-front, filter-back, find-at}

-- ---- binary search

-- as numbers rise, so does their order to another
pub order_rises : (a b id : ℕ) → a ≤ b → ordering_index (nat_cmp a id) ≤ ordering_index (nat_cmp b id)
order_rises a b id le = grind (arith, nat_tests)

-- nodes in ascending order rise from place to place
pub rises : (xs : List HeldNode) → IsStrictlySortedBy nat_cmp (ids_of_held xs) → (i j : ℕ) (d : HeldNode) → i < j → j < length xs → (get_or xs i d).id.0 < (get_or xs j d).id.0
rises xs up i j d lt within =
    let n = length-map xs (λ (x : HeldNode). x.id.0) in
    let below = below_from_sorted (ids_of_held xs) i j d.id.0 up lt (omega arith) in
    let at_i = get_or-map (λ (x : HeldNode). x.id.0) xs i d d.id.0 (omega arith) in
    let at_j = get_or-map (λ (x : HeldNode). x.id.0) xs j d d.id.0 within in
    rw (← at_i, ← at_j) below

searchable : (xs : List HeldNode) (id : ℕ) → IsStrictlySortedBy nat_cmp (ids_of_held xs) → IsNonDecreasingBy (λ y. ordering_index (nat_cmp y.id.0 id)) xs
searchable xs id up i j d le within =
    elim (cases_lt i j) [
      | inl lt ↦ order_rises (get_or xs i d).id.0 (get_or xs j d).id.0 id (let less = rises xs up i j d lt within in omega arith)
      | inr ge ↦ let same : i ≡ j = omega arith in rw same (omega arith)
    ]

-- a node that stands in a place stands alone there
pub stands-at : (xs : List HeldNode) (id i : ℕ) (x : HeldNode) → IsStrictlySortedBy nat_cmp (ids_of_held xs) → i < length xs → (get_or xs i x).id.0 ≡ id → IsPlaceOf xs id i
stands-at xs id i x up within same = record {
  within = within;
  here = here;
  before = λ k d low lt. let is = here d in let less = rises xs up k i d lt within in omega arith;
  after = λ k d lt in'. let is = here d in let less = rises xs up i k d (omega arith) in' in omega arith;
}
  where
    here : HoldsAt (λ (node : HeldNode). node.id.0 ≡ id) xs i
    here d = ap (λ (node : HeldNode). node.id.0) (get_or_default xs i d x within) ∙ same

pub searched : (xs : List HeldNode) (id : ℕ) (r : Result ℕ ℕ) → IsStrictlySortedBy nat_cmp (ids_of_held xs) → IsSearchInRange r (length xs)
    → IsBinarySearchResult (λ y. nat_cmp y.id.0 id) xs r → IfOk r (IsPlaceOf xs id) × IfErr r (IsGapFor xs id)
searched xs id (Ok i) up within at =
    let here : HoldsAt (λ (node : HeldNode). node.id.0 ≡ id) xs i = λ d. ranked (get_or xs i d).id.0 id Equal (sym (at d)) in (
      record {
        within = within;
        here = here;
        before = λ k d low lt. let is = here d in let less = rises xs up k i d lt within in omega arith;
        after = λ k d lt in'. let is = here d in let less = rises xs up i k d (omega arith) in' in omega arith;
      },
      tt,
    )
searched xs id (Err i) up within at =
    let parts = at (searchable xs id up) in (
      tt,
      record {
        within = within;
        before = λ k d low lt. ranked (get_or xs k d).id.0 id Less (sym (parts.0 k d low lt));
        after = λ k d low lt. ranked (get_or xs k d).id.0 id Greater (sym (parts.1 k d low lt));
      },
    )

-- ---- what the map says there

pub held-at : (xs : List HeldNode) (id i : ℕ) (d : HeldNode) → IsPlaceOf xs id i → held xs id ≡ Some (get_or xs i d).stored
held-at xs id i d p =
    let found = find-at (λ (x : HeldNode). x.id.0 == id) xs i d p.within (λ k e lt. other (get_or xs k e) id (p.before k e (omega arith) lt)) (eq-eqb (get_or xs i d).id.0 id (p.here d)) in
    ap (option_map (λ (x : HeldNode). x.stored)) found
  where
    other : (x : HeldNode) (id : ℕ) → x.id.0 < id → (x.id.0 == id) ≡ false
    other x id lt = ne_eqb x.id.0 id (λ same. omega arith)

pub held-none : (xs : List HeldNode) (id i : ℕ) → IsGapFor xs id i → held xs id ≡ None
held-none xs id i g =
    let none = find-none (λ (x : HeldNode). x.id.0 == id) xs (λ k d lt. ne_eqb (get_or xs k d).id.0 id (apart k d lt)) in
    ap (option_map (λ (x : HeldNode). x.stored)) none
  where
    apart : (k : ℕ) (d : HeldNode) → k < length xs → (get_or xs k d).id.0 ≡ id → ⊥
    apart k d lt same =
        elim (cases_lt k i) [
          | inl before ↦ let less = g.before k d (omega arith) before in omega arith
          | inr after ↦ let more = g.after k d after lt in omega arith
        ]

-- what stands before the entry of a node in the map, and after it
fronts : (xs : List HeldNode) (id i : ℕ) → IsGapFor xs id i → take i xs ≡ filter (λ x. nat_lt x.id.0 id) xs
fronts xs id i g =
    sym (filter-front (λ (x : HeldNode). nat_lt x.id.0 id) xs i (λ k d lt in'. lt-ltb (get_or xs k d).id.0 id (g.before k d (omega arith) lt)) (λ k d le lt. let more = g.after k d le lt in
    le-ltb (get_or xs k d).id.0 id (omega arith)))

backs : (xs : List HeldNode) (id i : ℕ) → IsGapFor xs id i → drop i xs ≡ filter (λ x. nat_lt id x.id.0) xs
backs xs id i g =
    sym (filter-back (λ (x : HeldNode). nat_lt id x.id.0) xs i (λ k d lt in'. let less = g.before k d (omega arith) lt in
    le-ltb id (get_or xs k d).id.0 (omega arith)) (λ k d le lt. lt-ltb id (get_or xs k d).id.0 (g.after k d le lt)))

pub put-in : (xs : List HeldNode) (id i : ℕ) (stored : Stored) → IsGapFor xs id i → insert xs i (entry id stored) ≡ put id stored xs
put-in xs id i stored g =
    let front = fronts xs id i g in
    let back = backs xs id i g in
    cc

pub put-at : (xs : List HeldNode) (id i : ℕ) (stored : Stored) → IsPlaceOf xs id i → set xs i (entry id stored) ≡ put id stored xs
put-at xs id i stored p =
    let split = set_split xs i (entry id stored) p.within in
    let front : take i xs ≡ filter (λ x. nat_lt x.id.0 id) xs =
    sym (filter-front (λ (x : HeldNode). nat_lt x.id.0 id) xs i (λ k d lt in'. lt-ltb (get_or xs k d).id.0 id (p.before k d (omega arith) lt))
    (λ k d le lt. le-ltb (get_or xs k d).id.0 id (from_here k d le lt))) in
    let back : drop (suc i) xs ≡ filter (λ x. nat_lt id x.id.0) xs =
    sym (filter-back (λ (x : HeldNode). nat_lt id x.id.0) xs (suc i) (λ k d lt in'. le-ltb id (get_or xs k d).id.0 (up_to_here k d lt in'))
    (λ k d le lt. lt-ltb id (get_or xs k d).id.0 (p.after k d (omega arith) lt))) in
    cc
  where
    from_here : (k : ℕ) (d : HeldNode) → i ≤ k → k < length xs → id ≤ (get_or xs k d).id.0
    from_here k d le lt =
        elim (cases_lt i k) [
          | inl after ↦ let more = p.after k d (omega arith) lt in omega arith
          | inr before ↦ let here = p.here d in let same : k ≡ i = omega arith in rw same (omega arith)
        ]

    up_to_here : (k : ℕ) (d : HeldNode) → k < suc i → k < length xs → (get_or xs k d).id.0 ≤ id
    up_to_here k d lt in' =
        elim (cases_lt k i) [
          | inl before ↦ let less = p.before k d (omega arith) before in omega arith
          | inr after ↦ let here = p.here d in let same : k ≡ i = omega arith in rw same (omega arith)
        ]
