-- What a loop over a list finds first.
use Rattle.hn_base.proofs.Names.{◌≡◌, ◌∙◌, ℕ, ◌+◌, ◌<◌, ◌≤◌, All, All-more, List, Option, None, Some, inr, ap, sym, subst, length, take, take_all, get_or, slice_get-get_or}
use Rattle.hn_audit.specs.First.{IsFirstFound, OrElse}

-- one more of which nothing is found
pub none_more : {X : Type 0} (none : X → Type 0) (xs : List X) (i : ℕ) (x d : X) → All none (take i xs) → i < length xs → x ≡ get_or xs i d → none x → All none (take (i + 1) xs)
none_more none xs i x d so_far within is here = All-more none xs i d within so_far (subst none is here)

-- the loop's list is that of the search
module _ {X Y : Type 0} (finds : X → Option Y → Type 0) (xs ys : List X) (all : xs ≡ ys) (i : ℕ) (so_far : All (λ x. finds x None) (take i xs)) where
  pub found_here : (x d : X) (y : Y) → i < length xs → x ≡ get_or xs i d → finds x (Some y) → IsFirstFound finds ys (Some y)
  found_here x d y within is found = subst (λ (zs : List X). IsFirstFound finds zs (Some y)) all first
    where
      first : IsFirstFound finds xs (Some y)
      first = record { place = i; one = x; at = slice_get-get_or xs i d within ∙ ap Some (sym is); found = found; before = so_far }

  pub found_nowhere : length xs ≤ i → IsFirstFound finds ys None
  found_nowhere end = subst (All (λ x. finds x None)) (take_all i xs end ∙ all) so_far

-- where the first of two searches finds nothing
pub or_else : {Y : Type 0} (finds otherwise : Option Y → Type 0) → finds None → (o : Option Y) → otherwise o → OrElse finds otherwise o
or_else finds otherwise none None found = (none, found)
or_else finds otherwise none (Some y) found = inr (none, found)
