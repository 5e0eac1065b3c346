-- The first element of a list that passes a test, where others are left out, or one is put in a place.
use Rattle.hn_base.proofs.Names.{◌≡◌, ◌∙◌, ℕ, Bool, true, false, not, List, [], ◌∷◌, ◌++◌, filter, Option, None, Some, refl, sym, ap, inl, inr, slice_get, find, if◌then◌else◌, option_or, cases_Bool}
use Rattle.hn_base.proofs.Names.{find_at, position-Some, get_or_from_slice_get}
use Rattle.hn_spacing.proofs.Names.{position, slice_set}
use Rattle.std.proofs.lemmas.List.Folds.{find-set, find_past, find-append}
use Rattle.std.proofs.lemmas.Option.{cond_some}

or_none : {X : Type 0} (o : Option X) → option_or o None ≡ o
or_none None = refl
or_none (Some x) = refl

module _ {X : Type 0} (p : X → Bool) where
  -- a filter that takes all that pass keeps the first; one that takes none of them leaves none
  kept : (q : X → Bool) → ((x : X) → p x ≡ true → q x ≡ true) → (xs : List X) → find p (filter q xs) ≡ find p xs
  kept q takes [] = refl
  kept q takes (x ∷ xs) =
      let rest = kept q takes xs in
      elim (cases_Bool (p x)) [
        | inl passes ↦ rw (takes x passes) (rw passes refl)
        | inr fails ↦ elim (cases_Bool (q x)) [
          | inl taken ↦ rw taken (rw fails rest)
          | inr left ↦ rw left (rw fails rest)
        ]
      ]

  left_out : (q : X → Bool) → ((x : X) → p x ≡ true → q x ≡ false) → (xs : List X) → find p (filter q xs) ≡ None
  left_out q leaves [] = refl
  left_out q leaves (x ∷ xs) =
      let rest = left_out q leaves xs in
      elim (cases_Bool (p x)) [
        | inl passes ↦ rw (leaves x passes) rest
        | inr fails ↦ elim (cases_Bool (q x)) [
          | inl taken ↦ rw taken (rw fails rest)
          | inr left ↦ rw left rest
        ]
      ]

  pub find-filter : (q : X → Bool) (b : Bool) → ((x : X) → p x ≡ true → q x ≡ b) → (xs : List X) → find p (filter q xs) ≡ (if b then find p xs else None)
  find-filter q true takes xs = kept q takes xs
  find-filter q false leaves xs = left_out q leaves xs

  -- a place is written that fails, over one that fails
  pub find-write_failing : (xs : List X) (i : ℕ) (x y : X) → slice_get xs i ≡ Some x → p x ≡ false → p y ≡ false → find p (slice_set xs i y) ≡ find p xs
  find-write_failing xs i x y at fails fails_too = find_past p xs i y x (ap p (get_or_from_slice_get xs i x x at) ∙ fails) fails_too

  -- the first place is written
  pub find-first : (xs : List X) (i : ℕ) (x : X) → position p xs ≡ Some i → slice_get xs i ≡ Some x → find p xs ≡ Some x
  find-first xs i x first at = find_at p xs ∙ ap (slice_get xs) (cond_some _ _ _ first).1 ∙ at

  pub find-write_first : (xs : List X) (i : ℕ) (y : X) → position p xs ≡ Some i → p y ≡ true → find p (slice_set xs i y) ≡ Some y
  find-write_first xs i y first passes = find-set p xs i y (sym (cond_some _ _ _ first).1) (position-Some p xs i y first).0 passes

  -- An element is put between those that pass one filter and those that pass another: of all that pass the test, the
  -- filters take each once. Where the element passes, it is the first, if none was before; else the first is as before.
  pub find-placed : (q r : X → Bool) (b : Bool) → ((x : X) → p x ≡ true → q x ≡ b) → ((x : X) → p x ≡ true → r x ≡ not b) → (xs : List X) (y : X) → p y ≡ false
      → find p (filter q xs ++ y ∷ filter r xs) ≡ find p xs
  find-placed q r true front back xs y fails =
      find-append p (filter q xs) (y ∷ filter r xs) ∙ rw fails (rw (kept q front xs, left_out r back xs) (or_none (find p xs)))
  find-placed q r false front back xs y fails =
      find-append p (filter q xs) (y ∷ filter r xs) ∙ rw fails (rw (left_out q front xs, kept r back xs) refl)

  pub find-placed_first : (q r : X → Bool) (xs : List X) (y : X) → find p (filter q xs) ≡ None → p y ≡ true → find p (filter q xs ++ y ∷ filter r xs) ≡ Some y
  find-placed_first q r xs y none passes = find-append p (filter q xs) (y ∷ filter r xs) ∙ rw none (rw passes refl)
