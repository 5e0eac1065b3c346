-- What a loop over a list finds first, and that what is found first is one.
use Rattle.hn_base.proofs.Names.{◌≡◌, ◌∙◌, ◌↔◌, ℕ, ◌+◌, ◌<◌, ◌≤◌, Bool, true, false, not, IsTrue, Option, Some, None, is_some, refl, sym, ap, subst, inl, inr, arith, List, Contains, length, take}
use Rattle.hn_base.proofs.Names.{get_or, slice_get, map, Bor, cases_lt, get_or-take, length-take, take-map, take_all, All-contains, All-map, All-more, get_or_from_slice_get, same_Some}
use Rattle.hn_base.proofs.Names.{slice_get-get_or, slice_get_within}
use Rattle.hn_audit.proofs.Names.{All, contains_at, part_stands, Member, Spot, FindsOne, IsFirstFound, OrElse, PlainSpot, members_of, plain_spot, plain_spots}

-- ---- as a loop goes over a list

-- one more of which nothing is found
pub none_more : {X : Type 0} (none : X → Type 0) (xs : List X) (i : ℕ) (x d : X) → All none (take i xs) → i < length xs → x ≡ get_or xs i d → none x → All none (take (i + 1) xs)
none_more none xs i x d so_far within is here = All-more none xs i d within so_far (subst none is here)

module _ {X Y : Type 0} (finds : X → Option Y → Type 0) (xs : List X) (i : ℕ) (so_far : All (λ x. finds x None) (take i xs)) where
  pub found_here : (x d : X) (y : Y) → i < length xs → x ≡ get_or xs i d → finds x (Some y) → IsFirstFound finds xs (Some y)
  found_here x d y within is found = record { place = i; one = x; at = slice_get-get_or xs i d within ∙ ap Some (sym is); found = found; before = so_far }

  pub found_nowhere : length xs ≤ i → IsFirstFound finds xs None
  found_nowhere end = subst (All (λ x. finds x None)) (take_all i xs end) so_far

-- the same, where the loop's list is another one
module _ {X Y : Type 0} (finds : X → Option Y → Type 0) (xs ys : List X) (all : xs ≡ ys) (i : ℕ) (so_far : All (λ x. finds x None) (take i xs)) where
  pub found_here_in : (x d : X) (y : Y) → i < length xs → x ≡ get_or xs i d → finds x (Some y) → IsFirstFound finds ys (Some y)
  found_here_in x d y within is found = subst (λ (zs : List X). IsFirstFound finds zs (Some y)) all (found_here finds xs i so_far x d y within is found)

  pub found_nowhere_in : length xs ≤ i → IsFirstFound finds ys None
  found_nowhere_in end = subst (λ (zs : List X). IsFirstFound finds zs None) all (found_nowhere finds xs i so_far end)

-- of what is made of each
module _ {X Z Y : Type 0} (of : X → Z) (finds : Z → Option Y → Type 0) (xs : List X) (i : ℕ) (so_far : All (λ x. finds (of x) None) (take i xs)) where
  found_here_of : (x : X) (y : Y) → i < length xs → x ≡ get_or xs i x → finds (of x) (Some y) → IsFirstFound finds (map of xs) (Some y)
  found_here_of x y within is found = record {
    place = i;
    one = of x;
    at = part_stands of xs i x (slice_get-get_or xs i x within ∙ ap Some (sym is));
    found = found;
    before = subst (All (λ z. finds z None)) (sym (take-map of i xs)) (All-map (λ z. finds z None) of (take i xs) so_far);
  }

  found_nowhere_of : length xs ≤ i → IsFirstFound finds (map of xs) None
  found_nowhere_of end = All-map (λ z. finds z None) of xs (subst (All (λ x. finds (of x) None)) (take_all i xs end) so_far)

-- of the routers of a set
module _ {Y : Type 0} (finds : Member → Option Y → Type 0) (set : List (Bor Member)) (i : ℕ) (so_far : All (λ s. finds s.now None) (take i set)) where
  pub member_found : (s : Bor Member) (y : Y) → i < length set → s ≡ get_or set i s → finds s.now (Some y) → IsFirstFound finds (members_of set) (Some y)
  member_found = found_here_of (λ (s : Bor Member). s.now) finds set i so_far

  pub no_member_found : length set ≤ i → IsFirstFound finds (members_of set) None
  no_member_found = found_nowhere_of (λ (s : Bor Member). s.now) finds set i so_far

-- of attached endpoints
module _ {Y : Type 0} (finds : PlainSpot → Option Y → Type 0) (spots : List Spot) (i : ℕ) (so_far : All (λ a. finds (plain_spot a) None) (take i spots)) where
  pub spot_found : (a : Spot) (y : Y) → i < length spots → a ≡ get_or spots i a → finds (plain_spot a) (Some y) → IsFirstFound finds (plain_spots spots) (Some y)
  spot_found = found_here_of plain_spot finds spots i so_far

  pub no_spot_found : length spots ≤ i → IsFirstFound finds (plain_spots spots) None
  no_spot_found = found_nowhere_of plain_spot finds spots i so_far

-- ---- one search after another

-- where the first one finds nothing
pub or_else : {Y : Type 0} (finds otherwise : Option Y → Type 0) → finds None → (o : Option Y) → otherwise o → OrElse finds otherwise o
or_else finds otherwise none None found = (none, found)
or_else finds otherwise none (Some y) found = inr (none, found)

-- ---- whether nothing is found

-- where that decides a fact, so does `is_none`
pub told_none : {A : Type 0} (o : Option A) (answer : Bool) (P : Type 0) → is_some o ≡ not answer → (o ≡ None) ↔ P → IsTrue answer ↔ P
told_none None true P said law = (λ is. law.0 refl, λ p. refl)
told_none None false P said law = absurd (cc)
told_none (Some x) true P said law = absurd (cc)
told_none (Some x) false P said law = (λ is. absurd (cc), λ p. let none = law.1 p in absurd (cc))

-- ---- what is found is one

-- two searches find the same
abbrev pub Agree : {Y : Type 0} → (Option Y → Type 0) → (Option Y → Type 0) → Type 0
Agree {Y} finds others = (x y : Option Y) → finds x → others y → x ≡ y

at_before : {X : Type 0} (P : X → Type 0) (xs : List X) (n k : ℕ) (x : X) → All P (take n xs) → k < n → slice_get xs k ≡ Some x → P x
at_before P xs n k x all below at =
    let within : k < length xs = slice_get_within xs k x at in
    let here : k < length (take n xs) = omega (arith, length-take n xs) in
    subst P (get_or-take n xs k x below ∙ get_or_from_slice_get xs k x x at) (all k x here)

-- they do not, where the one finds nothing and the other something
none_or_some : {Y : Type 0} (finds others : Option Y → Type 0) (y : Y) → Agree finds others → finds None → others (Some y) → ⊥
none_or_some finds others y agree none some = let same = agree None (Some y) none some in cc

some_or_none : {Y : Type 0} (finds others : Option Y → Type 0) (y : Y) → Agree finds others → finds (Some y) → others None → ⊥
some_or_none finds others y agree some none = let same = agree (Some y) None some none in cc

pub first_agrees : {X Y : Type 0} (finds others : X → Option Y → Type 0) (xs : List X) → ((x : X) → Contains xs x → Agree (finds x) (others x)) → Agree (IsFirstFound finds xs) (IsFirstFound others xs)
first_agrees finds others xs agree None None none also = refl
first_agrees finds others xs agree None (Some y) none some =
    let there = contains_at xs some.place some.one some.at in
    absurd (none_or_some (finds some.one) (others some.one) y (agree some.one there) (All-contains (λ x. finds x None) xs some.one none there) some.found)
first_agrees finds others xs agree (Some y) None some none =
    let there = contains_at xs some.place some.one some.at in
    absurd (some_or_none (finds some.one) (others some.one) y (agree some.one there) some.found (All-contains (λ x. others x None) xs some.one none there))
first_agrees {X} {Y} finds others xs agree (Some y) (Some z) here there =
    elim (cases_lt here.place there.place) [
      | inl before ↦
          let none = at_before (λ x. others x None) xs there.place here.place here.one there.before before here.at in
          absurd (some_or_none (finds here.one) (others here.one) y (agree here.one (contains_at xs here.place here.one here.at)) here.found none)
      | inr not_before ↦
          elim (cases_lt there.place here.place) [
            | inl before ↦
                let none = at_before (λ x. finds x None) xs here.place there.place there.one here.before before there.at in
                absurd (none_or_some (finds there.one) (others there.one) z (agree there.one (contains_at xs there.place there.one there.at)) none there.found)
            | inr not_after ↦
                let place : there.place ≡ here.place = omega arith in
                let same : there.one ≡ here.one = same_Some there.one here.one (sym there.at ∙ ap (slice_get xs) place ∙ here.at) in
                agree here.one (contains_at xs here.place here.one here.at) (Some y) (Some z) here.found (subst (λ (x : X). others x (Some z)) same there.found)
          ]
    ]

pub or_else_agrees : {Y : Type 0} (finds otherwise finds' otherwise' : Option Y → Type 0) → Agree finds finds' → Agree otherwise otherwise' → Agree (OrElse finds otherwise) (OrElse finds' otherwise')
or_else_agrees finds otherwise finds' otherwise' one other None None none also = refl
or_else_agrees finds otherwise finds' otherwise' one other None (Some y) none (inl some) = one None (Some y) none.0 some
or_else_agrees finds otherwise finds' otherwise' one other None (Some y) none (inr some) = other None (Some y) none.1 some.1
or_else_agrees finds otherwise finds' otherwise' one other (Some x) None (inl some) none = one (Some x) None some none.0
or_else_agrees finds otherwise finds' otherwise' one other (Some x) None (inr some) none = other (Some x) None some.1 none.1
or_else_agrees finds otherwise finds' otherwise' one other (Some x) (Some y) (inl some) (inl also) = one (Some x) (Some y) some also
or_else_agrees finds otherwise finds' otherwise' one other (Some x) (Some y) (inl some) (inr also) = absurd (some_or_none finds finds' x one some also.0)
or_else_agrees finds otherwise finds' otherwise' one other (Some x) (Some y) (inr some) (inl also) = absurd (none_or_some finds finds' y one some.0 also)
or_else_agrees finds otherwise finds' otherwise' one other (Some x) (Some y) (inr some) (inr also) = other (Some x) (Some y) some.1 also.1

-- a search of one thing finds one, if it is always this, and never found with nothing
pub leaf_is_one : {Y : Type 0} (finds : Option Y → Type 0) (y : Y) → ((v : Y) → finds None → finds (Some v) → ⊥) → ((v : Y) → finds (Some v) → v ≡ y) → FindsOne finds
leaf_is_one finds y apart is None None none also = refl
leaf_is_one finds y apart is None (Some v) none some = absurd (apart v none some)
leaf_is_one finds y apart is (Some v) None some none = absurd (apart v none some)
leaf_is_one finds y apart is (Some v) (Some u) some also = ap Some (is v some ∙ sym (is u also))
