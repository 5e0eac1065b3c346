-- What lists have for a key.
use Rattle.hn_base.proofs.Names.{◌≡◌, ◌∙◌, ◌⊎◌, List, [], ◌∷◌, Contains, Option, None, Some, Ordering, refl, sym, ap, inl, inr, ⊎_elim, IsTotalOrder, IsStrictlySortedBy, on, IsExact, HasAt}
use Rattle.hn_base.proofs.AscendingLists.{nothing_in, Contains-head, Contains-tail, Contains-cases}
use Rattle.hn_base.proofs.DecidingTests.{cases_by}
use Rattle.hn_base.proofs.PartsAtPlaces.{one_of_ascending}

module _ {A K : Type 0} (key_of : A → K) (R : K → K → Ordering) (total : IsTotalOrder R) where
  -- by an exact order of the keys, a list has an element for a key, or none
  pub has_some : IsExact R → (key : K) (xs : List A) → (o : Option A) × HasAt key_of key o xs
  has_some exact key [] = (None, λ x there is. nothing_in x there)
  has_some exact key (y ∷ xs) = by_cases (cases_by R total exact (key_of y) key) (has_some exact key xs)
    where
      by_cases : (key_of y ≡ key) ⊎ (¬ (key_of y ≡ key)) → (o : Option A) × HasAt key_of key o xs → (o : Option A) × HasAt key_of key o (y ∷ xs)
      by_cases (inl is) rest = (Some y, (Contains-head y xs, is))
      by_cases (inr not) (Some x, has) = (Some x, (Contains-tail y xs x has.0, has.1))
      by_cases (inr not) (None, none) = (None, λ x there is. ⊎_elim (λ (here : y ≡ x). not (ap key_of here ∙ is)) (λ (later : Contains xs x). none x later is) (Contains-cases y xs x there))

  -- what a list that ascends by its keys has for a key is one
  pub has_one : (key : K) (xs : List A) (a b : Option A) → IsStrictlySortedBy (on key_of R) xs → HasAt key_of key a xs → HasAt key_of key b xs → a ≡ b
  has_one key xs None None up a b = refl
  has_one key xs None (Some y) up a b = absurd (a y b.0 b.1)
  has_one key xs (Some x) None up a b = absurd (b x a.0 a.1)
  has_one key xs (Some x) (Some y) up a b = ap Some (one_of_ascending key_of R total xs up x y a.0 b.0 (a.1 ∙ sym b.1))
