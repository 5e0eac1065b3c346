-- The router of an event, by the place of the router that the event names.
use Rattle.hn_base.proofs.Names.{◌≡◌, ◌∙◌, ℕ, Bool, true, false, cond, List, Option, Some, None, length, nat_lt, position, slice_get, refl, sym, ap, position_or_len, option_and_then, ltb-false}
use Rattle.hn_base.proofs.Names.{find_at, slice_get_past, name_text}
use Rattle.hn_world.proofs.Names.{find, Name, WEvent, Parts, is_named, member_named, named_member, refusal, named_by, place_by}
use Rattle.hn_world.proofs.Accepted.{router_found}
use Rattle.hn_world.proofs.DoneAsPlanned.{named_nowhere}

-- an accepted event whose router is nowhere names none
pub nowhere_is_nameless : (w : Parts) (event : WEvent) → place_by (named_by event) w ≡ None → refusal w event ≡ None → named_by event ≡ None
nowhere_is_nameless w event placed accepted = by_name (named_by event) refl placed
  where
    by_name : (o : Option Name) → named_by event ≡ o → place_by o w ≡ None → named_by event ≡ None
    by_name None is none = is
    by_name (Some name) is none =
        let (m, found) = router_found w event name is accepted in
        let gone : Some m ≡ None = sym found ∙ named_nowhere (name_text name) w none in
        absurd cc

-- what is at the place of the first that passes
found_by_place : {A : Type 0} (p : A → Bool) (xs : List A) → option_and_then (slice_get xs) (position p xs) ≡ find p xs
found_by_place {A} p xs = by_test (nat_lt (position_or_len p xs) (length xs)) refl
  where
    by_test : (b : Bool) → nat_lt (position_or_len p xs) (length xs) ≡ b → option_and_then (slice_get xs) (cond b (Some (position_or_len p xs)) None) ≡ find p xs
    by_test true is = sym (find_at p xs)
    by_test false is = sym (find_at p xs ∙ slice_get_past xs (position_or_len p xs) (ltb-false (position_or_len p xs) (length xs) is))

pub named_member_is : (w : Parts) (event : WEvent) (place : Option ℕ) → place ≡ place_by (named_by event) w → option_and_then (slice_get w.members) place ≡ named_member event w
named_member_is w event place placed = ap (option_and_then (slice_get w.members)) placed ∙ by_name (named_by event)
  where
    by_name : (o : Option Name) → option_and_then (slice_get w.members) (place_by o w) ≡ option_and_then (λ (n : Name). member_named (name_text n) w) o
    by_name None = refl
    by_name (Some name) = found_by_place (is_named (name_text name)) w.members
