-- What `any` answers, as a fact of elements.
use Rattle.hn_base.proofs.Names.{◌↔◌, ℕ, ◌<◌, Bool, true, false, IsTrue, Contains, List, [], ◌∷◌, length, get_or, arith, AllWithin, HoldsAt, Contains-get_or}
use Rattle.std.specs.Bool.{MatchBool}
use Rattle.std.proofs.lemmas.Iterator.Search.{true_from_Any}

-- what `any` answers, as one element with the fact
pub any_decides : {X : Type 0} (P : X → Type 0) (r : Bool) (xs : List X)
    → MatchBool r ((k : ℕ) × (k < length xs) × HoldsAt P xs k) (AllWithin (λ x. ¬ (P x)) xs 0 (length xs))
    → IsTrue r ↔ ((x : X) × Contains xs x × P x)
any_decides {X} P r xs said = (yes r said, λ found. true_from_Any P (λ x. ¬ (P x)) r xs (λ x p q. q p) said found.0 found.1 found.2)
  where
    some : (ys : List X) (k : ℕ) → k < length ys → X
    some [] k within = absurd (omega (arith, within))
    some (y ∷ ys) k within = y

    yes : (b : Bool) → MatchBool b ((k : ℕ) × (k < length xs) × HoldsAt P xs k) (AllWithin (λ x. ¬ (P x)) xs 0 (length xs)) → IsTrue b → (x : X) × Contains xs x × P x
    yes true (k, within, at) is = let d = some xs k within in (get_or xs k d, Contains-get_or xs k d within, at d)
    yes false none is = absurd (cc)
