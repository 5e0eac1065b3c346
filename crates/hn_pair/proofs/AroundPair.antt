-- A list that is strictly ascending by pairs: the part before a pair, what is there, and the part after it.
use Rattle.hn_base.proofs.Names.{◌≡◌, ◌↔◌, ◌⊎◌, ℕ, ◌+◌, ◌-◌, ◌<◌, ◌≤◌, suc, zero, List, [], ◌∷◌, ◌++◌, length, take, drop, get_or, Contains, Option, Some, None, IfSome, Result, Ok, Err, false, IsTrue}
use Rattle.hn_base.proofs.Names.{is_ok, refl, sym, ap, ◌∙◌, subst, inl, inr, ⊎_elim, arith, Less, Greater, AllByRecursion, AllWithin, IsSearchInRange, IsBinarySearchResult, on, ordering_reverse}
use Rattle.hn_base.proofs.Names.{is_lt, drop-cons, cases_lt, take-append-drop, get_or_from_slice_get, All-contains, All-from_recursion, Contains-append_left, Contains-append_right}
use Rattle.hn_base.proofs.Names.{Contains-append_cases, Contains-get_or, searchable_from_sorted, sorted_head, sorted_tail, Less-from_sorted, HasAt}
use Rattle.hn_pair.proofs.Names.{not_below_itself, Contains-head, Contains-tail, Contains-cases, Pair, pair_cmp, IsAscending, IsPlaceOfPair, Updates}
use Rattle.std.specs.List.{slice_get}
use Rattle.std.specs.List.Sorted.{IsStrictlySortedBy}
use Rattle.std.specs.Option.{option_to_list}
use Rattle.hn_base.proofs.EachByRecursion.{AllByRecursion-append, AllByRecursion-weaker}
use Rattle.hn_pair.proofs.Orders.{pair_total, pair_exact}

pub greater_is_above : (p q : Pair) → pair_cmp p q ≡ Greater → pair_cmp q p ≡ Less
greater_is_above p q e = pair_total.antisymm q p ∙ ap ordering_reverse e

module _ {A : Type 0} (key : A → Pair) where
  -- each element is below the pair; above it
  abbrev pub Below : Pair → List A → Type 0
  Below pair xs = AllByRecursion (λ x. pair_cmp (key x) pair ≡ Less) xs

  abbrev pub Above : Pair → List A → Type 0
  Above pair xs = AllByRecursion (λ x. pair_cmp pair (key x) ≡ Less) xs

  -- each element of one list is below each of the other
  abbrev AllBelow : List A → List A → Type 0
  AllBelow xs ys = AllByRecursion (λ x. AllByRecursion (λ y. pair_cmp (key x) (key y) ≡ Less) ys) xs

  pub ascending_nil : IsAscending key []
  unfolding IsStrictlySortedBy
  ascending_nil = tt

  ascending_cons : (x : A) (xs : List A) → AllByRecursion (λ y. pair_cmp (key x) (key y) ≡ Less) xs → IsAscending key xs → IsAscending key (x ∷ xs)
  unfolding IsStrictlySortedBy
  ascending_cons x xs first rest = (first, rest)

  ascending_append : (xs ys : List A) → IsAscending key xs → IsAscending key ys → AllBelow xs ys → IsAscending key (xs ++ ys)
  ascending_append [] ys up_xs up_ys below = up_ys
  ascending_append (x ∷ xs) ys up_xs up_ys below =
      ascending_cons x (xs ++ ys) (AllByRecursion-append (λ y. pair_cmp (key x) (key y) ≡ Less) xs ys (sorted_head (on key pair_cmp) x xs up_xs) below.0)
      (ascending_append xs ys (sorted_tail (on key pair_cmp) x xs up_xs) up_ys below.1)

  -- the two parts on both sides of a pair
  apart : (pair : Pair) (xs ys : List A) → Below pair xs → Above pair ys → AllBelow xs ys
  apart pair xs ys below above =
      AllByRecursion-weaker (λ x. pair_cmp (key x) pair ≡ Less) (λ x. AllByRecursion (λ y. pair_cmp (key x) (key y) ≡ Less) ys)
      (λ x less. AllByRecursion-weaker (λ y. pair_cmp pair (key y) ≡ Less) (λ y. pair_cmp (key x) (key y) ≡ Less) (λ y more. pair_total.trans (key x) pair (key y) less more) ys above) xs below

  -- with something of the pair before the second part
  beside : (pair : Pair) (m : A) (xs ys : List A) → key m ≡ pair → Below pair xs → Above pair ys → AllBelow xs (m ∷ ys)
  beside pair m xs ys is below above =
      AllByRecursion-weaker (λ x. pair_cmp (key x) pair ≡ Less) (λ x. AllByRecursion (λ y. pair_cmp (key x) (key y) ≡ Less) (m ∷ ys))
      (λ x less. (
        subst (λ (p : Pair). pair_cmp (key x) p ≡ Less) (sym is) less,
        AllByRecursion-weaker (λ y. pair_cmp pair (key y) ≡ Less) (λ y. pair_cmp (key x) (key y) ≡ Less) (λ y more. pair_total.trans (key x) pair (key y) less more) ys above,
      )) xs below

  -- what stands on both sides of a pair
  pub record Sides (pair : Pair) (front back : List A) : Type 0 where
    pub front_ascends : IsAscending key front
    pub below : Below pair front
    pub back_ascends : IsAscending key back
    pub above : Above pair back

  -- the front, what there is for the pair, the back
  abbrev pub joined : List A → Option A → List A → List A
  joined front m back = front ++ (option_to_list m ++ back)

  pub ascending_joined : (pair : Pair) (front : List A) (m : Option A) (back : List A) → Sides pair front back → IfSome m (λ x. key x ≡ pair) → IsAscending key (joined front m back)
  ascending_joined pair front None back s is = ascending_append front back s.front_ascends s.back_ascends (apart pair front back s.below s.above)
  ascending_joined pair front (Some m) back s is =
      ascending_append front (m ∷ back) s.front_ascends (ascending_cons m back (AllByRecursion-weaker (λ y. pair_cmp pair (key y) ≡ Less)
      (λ y. pair_cmp (key m) (key y) ≡ Less) (λ y more. subst (λ (p : Pair). pair_cmp p (key y) ≡ Less) (sym is) more) back s.above) s.back_ascends)
      (beside pair m front back is s.below s.above)

  in_front : (pair : Pair) (front : List A) (x : A) → Below pair front → Contains front x → ¬ (key x ≡ pair)
  in_front pair front x below h same = not_below_itself pair_cmp pair_total (key x) pair same
      (All-contains (λ y. pair_cmp (key y) pair ≡ Less) front x (All-from_recursion (λ y. pair_cmp (key y) pair ≡ Less) front below) h)

  in_back : (pair : Pair) (back : List A) (x : A) → Above pair back → Contains back x → ¬ (key x ≡ pair)
  in_back pair back x above h same = not_below_itself pair_cmp pair_total pair (key x) (sym same)
      (All-contains (λ y. pair_cmp pair (key y) ≡ Less) back x (All-from_recursion (λ y. pair_cmp pair (key y) ≡ Less) back above) h)

  pub has_joined : (pair : Pair) (front : List A) (m : Option A) (back : List A) → Sides pair front back → IfSome m (λ x. key x ≡ pair) → HasAt key pair m (joined front m back)
  has_joined pair front None back s is = λ x h. ⊎_elim (in_front pair front x s.below) (in_back pair back x s.above) (Contains-append_cases front back x h)
  has_joined pair front (Some m) back s is = (Contains-append_right front (m ∷ back) m (Contains-head m back), is)

  -- another pair's element stands on one of the sides
  pub others : (pair : Pair) (front : List A) (m : Option A) (back : List A) (x : A)
      → IfSome m (λ y. key y ≡ pair) → ¬ (key x ≡ pair) → Contains (joined front m back) x ↔ (Contains front x ⊎ Contains back x)
  others pair front None back x is not = (Contains-append_cases front back x, ⊎_elim (Contains-append_left front back x) (Contains-append_right front back x))
  others pair front (Some m) back x is not = (
    λ h. ⊎_elim (λ (f : Contains front x). inl f) (λ (b : Contains (m ∷ back) x). ⊎_elim (λ (same : m ≡ x). absurd (not (ap key (sym same) ∙ is)))
        (λ (r : Contains back x). inr r) (Contains-cases m back x b)) (Contains-append_cases front (m ∷ back) x h),
    ⊎_elim (Contains-append_left front (m ∷ back) x) (λ (r : Contains back x). Contains-append_right front (m ∷ back) x (Contains-tail m back x r)),
  )

  pub updates_joined : (pair : Pair) (front : List A) (old new : Option A) (back : List A) → Sides pair front back → IfSome old (λ x. key x ≡ pair) → IfSome new (λ x. key x ≡ pair)
      → Updates key pair new (joined front old back) (joined front new back)
  updates_joined pair front old new back s was is = record {
    ascending = ascending_joined pair front new back s is;
    here = has_joined pair front new back s is;
    others = λ x not. let before = others pair front old back x was not in let after = others pair front new back x is not in (λ h. before.1 (after.0 h), λ h. after.1 (before.0 h));
  }

  -- ---- the sides of an element

  below_front : (front : List A) (x : A) (back : List A) → IsAscending key (front ++ x ∷ back) → Below (key x) front
  below_front [] x back up = tt
  below_front (y ∷ front) x back up = (
    All-contains (λ z. pair_cmp (key y) (key z) ≡ Less) (front ++ x ∷ back) x (All-from_recursion (λ z. pair_cmp (key y) (key z) ≡ Less) (front ++ x ∷ back)
        (sorted_head (on key pair_cmp) y (front ++ x ∷ back) up)) (Contains-append_right front (x ∷ back) x (Contains-head x back)),
    below_front front x back (sorted_tail (on key pair_cmp) y (front ++ x ∷ back) up),
  )

  pub front_of : (front back : List A) → IsAscending key (front ++ back) → IsAscending key front
  front_of [] back up = ascending_nil
  front_of (y ∷ front) back up =
      ascending_cons y front (first_of front back (sorted_head (on key pair_cmp) y (front ++ back) up)) (front_of front back (sorted_tail (on key pair_cmp) y (front ++ back) up))
    where
      first_of : (zs ws : List A) → AllByRecursion (λ z. pair_cmp (key y) (key z) ≡ Less) (zs ++ ws) → AllByRecursion (λ z. pair_cmp (key y) (key z) ≡ Less) zs
      first_of [] ws h = tt
      first_of (z ∷ zs) ws h = (h.0, first_of zs ws h.1)

  pub back_of : (front back : List A) → IsAscending key (front ++ back) → IsAscending key back
  back_of [] back up = up
  back_of (y ∷ front) back up = back_of front back (sorted_tail (on key pair_cmp) y (front ++ back) up)

  pub sides_of : (pair : Pair) (front : List A) (x : A) (back : List A) → key x ≡ pair → IsAscending key (front ++ x ∷ back) → Sides pair front back
  sides_of pair front x back is up =
      let rest = back_of front (x ∷ back) up in
      record {
        front_ascends = front_of front (x ∷ back) up;
        below = subst (λ (p : Pair). Below p front) is (below_front front x back up);
        back_ascends = sorted_tail (on key pair_cmp) x back rest;
        above = subst (λ (p : Pair). Above p back) is (sorted_head (on key pair_cmp) x back rest);
      }

  -- without one element
  pub ascending_without : (front : List A) (x : A) (back : List A) → IsAscending key (front ++ x ∷ back) → IsAscending key (front ++ back)
  ascending_without front x back up = ascending_joined (key x) front None back (sides_of (key x) front x back refl up) tt

  -- ---- the sides of a place

  less_before : (pair : Pair) (xs : List A) (i : ℕ) → i ≤ length xs → AllWithin (λ x. pair_cmp (key x) pair ≡ Less) xs 0 i → Below pair (take i xs)
  less_before pair [] zero within less = tt
  less_before pair [] (suc i) within less = tt
  less_before pair (x ∷ xs) zero within less = tt
  less_before pair (x ∷ xs) (suc i) within less = (less 0 x (omega arith) (omega arith), less_before pair xs i (omega arith) (λ k d low high. less (suc k) d (omega arith) (omega arith)))

  greater_after : (pair : Pair) (xs : List A) (i : ℕ) → i ≤ length xs → AllWithin (λ x. pair_cmp (key x) pair ≡ Greater) xs i (length xs) → Above pair (drop i xs)
  greater_after pair [] zero within greater = tt
  greater_after pair [] (suc i) within greater = tt
  greater_after pair (x ∷ xs) zero within greater = (
    greater_is_above (key x) pair (greater 0 x (omega arith) (omega arith)),
    greater_after pair xs 0 (omega arith) (λ k d low high. greater (suc k) d (omega arith) (omega arith)),
  )
  greater_after pair (x ∷ xs) (suc i) within greater = greater_after pair xs i (omega arith) (λ k d low high. greater (suc k) d (omega arith) (omega arith))

  -- a list, around an element
  split_at : (xs : List A) (i : ℕ) (d : A) → i < length xs → xs ≡ take i xs ++ get_or xs i d ∷ drop (suc i) xs
  split_at xs i d within = sym (take-append-drop i xs) ∙ ap (λ ys. take i xs ++ ys) (drop-cons xs i d within)

  pub sides_at : (pair : Pair) (xs : List A) (i : ℕ) (d : A) → i < length xs → key (get_or xs i d) ≡ pair → IsAscending key xs → Sides pair (take i xs) (drop (suc i) xs)
  sides_at pair xs i d within is up = sides_of pair (take i xs) (get_or xs i d) (drop (suc i) xs) is (subst (IsAscending key) (split_at xs i d within) up)

  pub sides_between : (pair : Pair) (xs : List A) (i : ℕ) → i ≤ length xs
      → AllWithin (λ x. pair_cmp (key x) pair ≡ Less) xs 0 i → AllWithin (λ x. pair_cmp (key x) pair ≡ Greater) xs i (length xs) → IsAscending key xs → Sides pair (take i xs) (drop i xs)
  sides_between pair xs i within less greater up =
      let whole : IsAscending key (take i xs ++ drop i xs) = subst (IsAscending key) (sym (take-append-drop i xs)) up in
      record {
        front_ascends = front_of (take i xs) (drop i xs) whole;
        below = less_before pair xs i within less;
        back_ascends = back_of (take i xs) (drop i xs) whole;
        above = greater_after pair xs i within greater;
      }

  -- an element's pair gets something else, or nothing
  pub updates_at : (pair : Pair) (xs : List A) (i : ℕ) (d : A) (new : Option A) → i < length xs → key (get_or xs i d) ≡ pair → IsAscending key xs → IfSome new (λ x. key x ≡ pair)
      → Updates key pair new xs (joined (take i xs) new (drop (suc i) xs))
  updates_at pair xs i d new within was up is =
      subst (λ (ys : List A). Updates key pair new ys (joined (take i xs) new (drop (suc i) xs))) (sym (split_at xs i d within))
      (updates_joined pair (take i xs) (Some (get_or xs i d)) new (drop (suc i) xs) (sides_at pair xs i d within was up) was is)

  -- a pair without an element gets one, or stays without
  pub updates_between : (pair : Pair) (xs : List A) (i : ℕ) (new : Option A)
      → i ≤ length xs → AllWithin (λ x. pair_cmp (key x) pair ≡ Less) xs 0 i → AllWithin (λ x. pair_cmp (key x) pair ≡ Greater) xs i (length xs) → IsAscending key xs → IfSome new (λ x. key x ≡ pair)
      → Updates key pair new xs (joined (take i xs) new (drop i xs))
  updates_between pair xs i new within less greater up is =
      subst (λ (ys : List A). Updates key pair new ys (joined (take i xs) new (drop i xs))) (take-append-drop i xs)
      (updates_joined pair (take i xs) None new (drop i xs) (sides_between pair xs i within less greater up) tt is)

  pub none_between : (pair : Pair) (xs : List A) (i : ℕ)
      → i ≤ length xs → AllWithin (λ x. pair_cmp (key x) pair ≡ Less) xs 0 i → AllWithin (λ x. pair_cmp (key x) pair ≡ Greater) xs i (length xs) → IsAscending key xs → HasAt key pair None xs
  none_between pair xs i within less greater up =
      subst (λ (ys : List A). HasAt key pair None ys) (take-append-drop i xs) (has_joined pair (take i xs) None (drop i xs) (sides_between pair xs i within less greater up) tt)

  -- what a binary search says
  pub place_from_search : (pair : Pair) (xs : List A) (r : Result ℕ ℕ)
      → IsAscending key xs → IsSearchInRange r (length xs) → IsBinarySearchResult (λ x. pair_cmp (key x) pair) xs r → IsPlaceOfPair key pair xs r
  place_from_search pair xs (Ok i) up within at = (within, λ d. pair_exact (key (get_or xs i d)) pair (at d))
  place_from_search pair xs (Err i) up within at = (
    within,
    at (searchable_from_sorted pair_total key xs pair
        (λ k d low high. not_after (get_or xs k d) (get_or xs (k + 1) d) (Less-from_sorted (on key pair_cmp) xs k (k + 1) d up (omega arith) high))),
  )
    where
      not_after : (x y : A) → pair_cmp (key x) (key y) ≡ Less → is_lt (pair_cmp (key y) (key x)) ≡ false
      not_after x y less = ap is_lt (pair_total.antisymm (key y) (key x) ∙ ap ordering_reverse less)

  -- what a pair gets at the place that was found for it
  pub put_at : (pair : Pair) (xs ys zs : List A) (i : ℕ) (new : Option A)
      → ys ≡ xs → IsPlaceOfPair key pair ys (Ok i) → IsAscending key xs → IfSome new (λ x. key x ≡ pair) → zs ≡ joined (take i xs) new (drop (suc i) xs) → Updates key pair new xs zs
  put_at pair xs ys zs i new same place up is gives = by_place (subst (λ (ws : List A). IsPlaceOfPair key pair ws (Ok i)) same place)
    where
      by_place : IsPlaceOfPair key pair xs (Ok i) → Updates key pair new xs zs
      by_place at = subst (Updates key pair new xs) (sym gives) (of_element xs i at.0 at.1 up)
        where
          of_element : (ws : List A) (j : ℕ) → j < length ws → ((d : A) → key (get_or ws j d) ≡ pair) → IsAscending key ws → Updates key pair new ws (joined (take j ws) new (drop (suc j) ws))
          of_element [] j within was _ = absurd (omega arith)
          of_element (w ∷ ws) j within was rises = updates_at pair (w ∷ ws) j w new within (was w) rises is

  pub put_between : (pair : Pair) (xs ys zs : List A) (i : ℕ) (new : Option A)
      → ys ≡ xs → IsPlaceOfPair key pair ys (Err i) → IsAscending key xs → IfSome new (λ x. key x ≡ pair) → zs ≡ joined (take i xs) new (drop i xs) → Updates key pair new xs zs
  put_between pair xs ys zs i new same place up is gives =
      let at = subst (λ (ws : List A). IsPlaceOfPair key pair ws (Err i)) same place in
      subst (Updates key pair new xs) (sym gives) (updates_between pair xs i new at.0 at.1.0 at.1.1 up is)

  -- whether something is found tells whether the pair has something
  pub found_where : (pair : Pair) (xs : List A) (r : Result ℕ ℕ) → IsPlaceOfPair key pair xs r → IsAscending key xs → IsTrue (is_ok r) ↔ ((x : A) × Contains xs x × (key x ≡ pair))
  found_where pair xs (Ok i) at up = (λ _. at_place xs i at.0 at.1, λ _. refl)
    where
      at_place : (ws : List A) (j : ℕ) → j < length ws → ((d : A) → key (get_or ws j d) ≡ pair) → (x : A) × Contains ws x × (key x ≡ pair)
      at_place [] j within is = absurd (omega arith)
      at_place (w ∷ ws) j within is = (get_or (w ∷ ws) j w, Contains-get_or (w ∷ ws) j w within, is w)
  found_where pair xs (Err i) at up = (λ t. absurd (cc), λ h. absurd (none_between pair xs i at.0 at.1.0 at.1.1 up h.0 h.1 h.2))

  -- a list in which a pair keeps what it has
  pub updates_same : (pair : Pair) (has : Option A) (xs : List A) → IsAscending key xs → HasAt key pair has xs → Updates key pair has xs xs
  updates_same pair has xs up here = record { ascending = up; here = here; others = λ x not. (λ h. h, λ h. h) }

-- after a last element below the pair is its place
pub place_at_end : {A : Type 0} (key : A → Pair) (pair : Pair) (xs : List A) (last : A) → IsAscending key xs → slice_get xs (length xs - 1) ≡ Some last
    → pair_cmp (key last) pair ≡ Less → IsPlaceOfPair key pair xs (Err (length xs))
place_at_end {A} key pair xs last up is less = (omega arith, (λ k d from within. below k d within, λ k d from within. absurd (omega (arith, from, within))))
  where
    below : (k : ℕ) (d : A) → k < length xs → pair_cmp (key (get_or xs k d)) pair ≡ Less
    below k d within =
        let n = length xs - 1 in
        let at : get_or xs n d ≡ last = get_or_from_slice_get xs n last d is in
        let at_last : pair_cmp (key (get_or xs n d)) pair ≡ Less = subst (λ (x : A). pair_cmp (key x) pair ≡ Less) (sym at) less in
        ⊎_elim
        (λ (before : k < n). pair_total.trans (key (get_or xs k d)) (key (get_or xs n d)) pair (Less-from_sorted (on key pair_cmp) xs k n d up before (omega arith)) at_last)
        (λ (after : n ≤ k). let same : n ≡ k = omega arith in subst (λ (m : ℕ). pair_cmp (key (get_or xs m d)) pair ≡ Less) same at_last)
        (cases_lt k n)
