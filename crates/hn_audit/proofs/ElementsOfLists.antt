-- Which elements lists have, and lists that grow by what an element gives.
use Rattle.hn_base.proofs.Names.{◌≡◌, ℕ, ◌+◌, ◌<◌, Bool, true, false, List, [], ◌∷◌, ◌++◌, length, get_or, take, Contains, refl, sym, ◌∙◌, ap, subst, inl, inr, flat_map, take_more, append-nil}
use Rattle.hn_base.proofs.Names.{Contains-append_left, Contains-append_right, Contains-append_cases, filter-append}
use Rattle.hn_audit.proofs.Names.{nothing_in, Contains-head, Contains-tail, Contains-cases}
use Rattle.std.specs.List.{filter}

-- ---- filter

-- what passes, as a `for` goes over a slice
pub kept_next : {X : Type 0} (p : X → Bool) (xs : List X) (i : ℕ) (x d : X) (ys zs : List X) → i < length xs → x ≡ get_or xs i d → p x ≡ true
    → ys ≡ filter p (take i xs) → zs ≡ ys ++ x ∷ [] → zs ≡ filter p (take (i + 1) xs)
kept_next {X} p xs i x d ys zs within is passes so_far last =
    let more : take (i + 1) xs ≡ take i xs ++ x ∷ [] = take_more xs i d within ∙ ap (λ (v : X). take i xs ++ v ∷ []) (sym is) in
    last ∙ rw (so_far, more, filter-append p (take i xs) (x ∷ []), passes) refl

pub left_next : {X : Type 0} (p : X → Bool) (xs : List X) (i : ℕ) (x d : X) (ys zs : List X) → i < length xs → x ≡ get_or xs i d → p x ≡ false
    → ys ≡ filter p (take i xs) → zs ≡ ys → zs ≡ filter p (take (i + 1) xs)
left_next {X} p xs i x d ys zs within is fails so_far last =
    let more : take (i + 1) xs ≡ take i xs ++ x ∷ [] = take_more xs i d within ∙ ap (λ (v : X). take i xs ++ v ∷ []) (sym is) in
    last ∙ rw (so_far, more, filter-append p (take i xs) (x ∷ []), fails) (sym (append-nil _))

-- ---- flat_map

pub in_flat_map : {X Y : Type 0} (g : X → List Y) (xs : List X) (x : X) (y : Y) → Contains xs x → Contains (g x) y → Contains (flat_map g xs) y
in_flat_map g [] x y there has = absurd (nothing_in x there)
in_flat_map {X} {Y} g (z ∷ xs) x y there has =
    elim (Contains-cases z xs x there) [
      | inl same ↦ Contains-append_left (g z) (flat_map g xs) y (subst (λ (v : X). Contains (g v) y) (sym same) has)
      | inr later ↦ Contains-append_right (g z) (flat_map g xs) y (in_flat_map g xs x y later has)
    ]

pub from_flat_map : {X Y : Type 0} (g : X → List Y) (xs : List X) (y : Y) → Contains (flat_map g xs) y → (x : X) × Contains xs x × Contains (g x) y
from_flat_map g [] y there = absurd (nothing_in y there)
from_flat_map g (x ∷ xs) y there =
    elim (Contains-append_cases (g x) (flat_map g xs) y there) [
      | inl here ↦ (x, Contains-head x xs, here)
      | inr later ↦ let found = from_flat_map g xs y later in (found.0, Contains-tail x xs found.0 found.1, found.2)
    ]
