-- Which elements lists have, lists that grow by what an element gives, and what a list gives that is made of another or
-- of parts.
use Rattle.hn_base.proofs.Names.{◌≡◌, ℕ, ◌+◌, ◌<◌, Bool, true, false, cond, Option, Some, None, List, [], ◌∷◌, ◌++◌, length, get_or, take, Contains, refl, sym, ap, ◌∙◌, subst, inl, inr, is_some, map}
use Rattle.hn_base.proofs.Names.{arith, filter_map, cons_option, list_any, AllPairs, take_more, append-nil, get_or_default, list_any_at, All-contains_itself, filter_map-append, cases_lt}
use Rattle.hn_base.proofs.Names.{All, find}
use Rattle.std.specs.List.{filter}
use Rattle.std.proofs.lemmas.List.Folds.{Any-from_list_any}
use Rattle.hn_base.proofs.AscendingLists.{nothing_in, Contains-head, Contains-tail, Contains-cases}

-- what holds of each element
pub all_of : {K : Type 0} (P : K → Type 0) (xs : List K) → ((x : K) → Contains xs x → P x) → All P xs
all_of P xs h k d lt = h (get_or xs k d) (All-contains_itself xs k d lt)

-- ---- filter

pub in_filter : {X : Type 0} (test : X → Bool) (xs : List X) (x : X) → Contains xs x → test x ≡ true → Contains (filter test xs) x
in_filter test [] x h passes = absurd (nothing_in x h)
in_filter {X} test (y ∷ xs) x h passes =
    elim (Contains-cases y xs x h) [
      | inl same ↦ first (test y) (ap test same ∙ passes) same
      | inr later ↦ next (test y) (in_filter test xs x later passes)
    ]
  where
    first : (b : Bool) → b ≡ true → y ≡ x → Contains (cond b (y ∷ filter test xs) (filter test xs)) x
    first true e same = subst (λ z. Contains (y ∷ filter test xs) z) same (Contains-head y (filter test xs))
    first false e same = absurd (cc)

    next : (b : Bool) → Contains (filter test xs) x → Contains (cond b (y ∷ filter test xs) (filter test xs)) x
    next true k = Contains-tail y (filter test xs) x k
    next false k = k

pub from_filter : {X : Type 0} (test : X → Bool) (xs : List X) (x : X) → Contains (filter test xs) x → Contains xs x × (test x ≡ true)
from_filter test [] x h = absurd (nothing_in x h)
from_filter {X} test (y ∷ xs) x h = go (test y) refl h (from_filter test xs x)
  where
    go : (b : Bool) → test y ≡ b → Contains (cond b (y ∷ filter test xs) (filter test xs)) x → (Contains (filter test xs) x → Contains xs x × (test x ≡ true)) → Contains (y ∷ xs) x × (test x ≡ true)
    go true e k rest =
        elim (Contains-cases y (filter test xs) x k) [
          | inl same ↦ (subst (λ z. Contains (y ∷ xs) z) same (Contains-head y xs), sym (ap test same) ∙ e)
          | inr later ↦ (Contains-tail y xs x (rest later).0, (rest later).1)
        ]
    go false e k rest = (Contains-tail y xs x (rest k).0, (rest k).1)

-- ---- filter_map

pub in_filter_map : {X Y : Type 0} (h : X → Option Y) (xs : List X) (x : X) (y : Y) → Contains xs x → h x ≡ Some y → Contains (filter_map h xs) y
in_filter_map h [] x y k is = absurd (nothing_in x k)
in_filter_map {X} {Y} h (z ∷ xs) x y k is =
    elim (Contains-cases z xs x k) [
      | inl same ↦ first (h z) (ap h same ∙ is)
      | inr later ↦ next (h z) (in_filter_map h xs x y later is)
    ]
  where
    first : (o : Option Y) → o ≡ Some y → Contains (cons_option o (filter_map h xs)) y
    first None e = absurd (cc)
    first (Some w) e =
        let same : w ≡ y = cc in
        subst (λ v. Contains (w ∷ filter_map h xs) v) same (Contains-head w (filter_map h xs))

    next : (o : Option Y) → Contains (filter_map h xs) y → Contains (cons_option o (filter_map h xs)) y
    next None l = l
    next (Some w) l = Contains-tail w (filter_map h xs) y l

pub from_filter_map : {X Y : Type 0} (h : X → Option Y) (xs : List X) (y : Y) → Contains (filter_map h xs) y → (x : X) × Contains xs x × (h x ≡ Some y)
from_filter_map h [] y k = absurd (nothing_in y k)
from_filter_map {X} {Y} h (x ∷ xs) y k = go (h x) refl k (from_filter_map h xs y)
  where
    go : (o : Option Y) → h x ≡ o → Contains (cons_option o (filter_map h xs)) y
        → (Contains (filter_map h xs) y → (z : X) × Contains xs z × (h z ≡ Some y)) → (z : X) × Contains (x ∷ xs) z × (h z ≡ Some y)
    go None e l rest = let found = rest l in (found.0, Contains-tail x xs found.0 found.1, found.2)
    go (Some w) e l rest =
        elim (Contains-cases w (filter_map h xs) y l) [
          | inl same ↦ (x, Contains-head x xs, e ∙ ap Some same)
          | inr later ↦ let found = rest later in (found.0, Contains-tail x xs found.0 found.1, found.2)
        ]

-- ---- list_any

pub any_of : {X : Type 0} (test : X → Bool) (xs : List X) → list_any test xs ≡ true → (x : X) × Contains xs x × (test x ≡ true)
any_of test xs is = let found = Any-from_list_any test xs is in (found.1, (found.0, found.2, found.3), found.4)

pub any_from : {X : Type 0} (test : X → Bool) (xs : List X) (x : X) → Contains xs x → test x ≡ true → list_any test xs ≡ true
any_from {X} test xs x (k, lt, at) passes = list_any_at test xs k x lt (subst (λ (y : X). test y ≡ true) (sym at) passes)

-- ---- find

-- what is found passes
pub found_passes : {X : Type 0} (test : X → Bool) (xs : List X) (x : X) → find test xs ≡ Some x → Contains xs x × (test x ≡ true)
found_passes test [] x is = absurd cc
found_passes {X} test (y ∷ xs) x is = go (found_passes test xs x) (test y) refl is
  where
    go : (find test xs ≡ Some x → Contains xs x × (test x ≡ true)) → (b : Bool) → test y ≡ b → cond b (Some y) (find test xs) ≡ Some x
        → Contains (y ∷ xs) x × (test x ≡ true)
    go more true passes e =
        let same : y ≡ x = cc in
        (subst (Contains (y ∷ xs)) same (Contains-head y xs), subst (λ (z : X). test z ≡ true) same passes)
    go more false fails e = let rest = more e in (Contains-tail y xs x rest.0, rest.1)

pub found_there : {X : Type 0} (test : X → Bool) (xs : List X) → is_some (find test xs) ≡ true → (x : X) × Contains xs x × (test x ≡ true)
found_there {X} test xs some = by_find (find test xs) refl some
  where
    by_find : (o : Option X) → find test xs ≡ o → is_some o ≡ true → (x : X) × Contains xs x × (test x ≡ true)
    by_find None is some = absurd cc
    by_find (Some x) is some = let passes = found_passes test xs x is in (x, passes.0, passes.1)

-- what passes is found, it or another
pub passing_found : {X : Type 0} (test : X → Bool) (xs : List X) (x : X) → Contains xs x → test x ≡ true → (y : X) × (find test xs ≡ Some y)
passing_found test [] x there passes = absurd (nothing_in x there)
passing_found {X} test (z ∷ xs) x there passes = go (λ later. passing_found test xs x later passes) (test z) refl
  where
    go : (Contains xs x → (y : X) × (find test xs ≡ Some y)) → (b : Bool) → test z ≡ b → (y : X) × (cond b (Some z) (find test xs) ≡ Some y)
    go more true is = (z, refl)
    go more false is =
        elim (Contains-cases z xs x there) [
          | inl same ↦ let passes_too : test z ≡ true = ap test same ∙ passes in absurd cc
          | inr later ↦ more later
        ]

-- ---- apart

-- two of a list are one where no two of different places are related
pub one_of_apart : {X : Type 0} (R : X → X → Type 0) (xs : List X) → AllPairs R xs → (x y : X) → Contains xs x → Contains xs y → ¬ (R x y) → ¬ (R y x) → x ≡ y
one_of_apart {X} R xs apart x y (i, below, at) (j, under, is) not_one not_other =
    elim (cases_lt i j) [
      | inl before ↦ absurd (not_one (subst (λ (v : X). R v y) at (subst (R (get_or xs i x)) y_too (apart i j x before under))))
      | inr not_before ↦
          elim (cases_lt j i) [
            | inl after ↦ absurd (not_other (subst (λ (v : X). R v x) y_too (subst (R (get_or xs j x)) at (apart j i x after below))))
            | inr not_after ↦ let place : i ≡ j = omega arith in sym at ∙ (ap (λ (k : ℕ). get_or xs k x) place ∙ y_too)
          ]
    ]
  where
    y_too : get_or xs j x ≡ y
    y_too = get_or_default xs j x y under ∙ is

-- ---- what an element gives, as a `for` goes over a slice

pub given_next : {X Y : Type 0} (h : X → Option Y) (xs : List X) (i : ℕ) (x d : X) (y : Y) (ys zs : List Y) → i < length xs → x ≡ get_or xs i d → h x ≡ Some y
    → ys ≡ filter_map h (take i xs) → zs ≡ ys ++ y ∷ [] → zs ≡ filter_map h (take (i + 1) xs)
given_next {X} {Y} h xs i x d y ys zs within is gives so_far last =
    let more : take (i + 1) xs ≡ take i xs ++ x ∷ [] = take_more xs i d within ∙ ap (λ (v : X). take i xs ++ v ∷ []) (sym is) in
    last ∙ rw (so_far, more, filter_map-append h (take i xs) (x ∷ []), gives) refl

pub passed_next : {X Y : Type 0} (h : X → Option Y) (xs : List X) (i : ℕ) (x d : X) (ys zs : List Y) → i < length xs → x ≡ get_or xs i d → h x ≡ None
    → ys ≡ filter_map h (take i xs) → zs ≡ ys → zs ≡ filter_map h (take (i + 1) xs)
passed_next {X} {Y} h xs i x d ys zs within is gives so_far last =
    let more : take (i + 1) xs ≡ take i xs ++ x ∷ [] = take_more xs i d within ∙ ap (λ (v : X). take i xs ++ v ∷ []) (sym is) in
    last ∙ rw (so_far, more, filter_map-append h (take i xs) (x ∷ []), gives) (sym (append-nil _))

-- ---- what is given by what is made of each element

-- where it gives nothing
pub none_given : {A X Y : Type 0} (given : Y → Option A) (item : X → Y) → ((x : X) → given (item x) ≡ None) → (xs : List X) → filter_map given (map item xs) ≡ []
none_given given item none [] = refl
none_given {A} given item none (x ∷ xs) = ap (λ (o : Option A). cons_option o (filter_map given (map item xs))) (none x) ∙ none_given given item none xs

-- where it gives what it is made of
pub all_given : {X Y : Type 0} (given : Y → Option X) (item : X → Y) → ((x : X) → given (item x) ≡ Some x) → (xs : List X) → filter_map given (map item xs) ≡ xs
all_given given item all [] = refl
all_given {X} given item all (x ∷ xs) =
    ap (λ (o : Option X). cons_option o (filter_map given (map item xs))) (all x) ∙ ap (λ (rest : List X). x ∷ rest) (all_given given item all xs)

-- what the parts of a list give
pub given_by_parts : {A Y : Type 0} (given : Y → Option A) (xs ys zs : List Y) → filter_map given (xs ++ ys ++ zs) ≡ filter_map given xs ++ filter_map given ys ++ filter_map given zs
given_by_parts given xs ys zs = filter_map-append given (xs ++ ys) zs ∙ rw (filter_map-append given xs ys) refl

-- ---- a list has no elements or some

pub none_or_some : {X : Type 0} (P : List X → Type 0) → P [] → ((x : X) (xs : List X) → P (x ∷ xs)) → (xs : List X) → P xs
none_or_some P none some [] = none
none_or_some P none some (x ∷ xs) = some x xs
