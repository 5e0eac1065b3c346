-- Which elements lists have.
use Rattle.hn_base.proofs.Names.{◌⊎◌, inl, inr, List, [], ◌∷◌, sym, subst}
use Rattle.hn_sound.proofs.Names.{nothing_in, Contains-head, Contains-cases}
use Rattle.std.specs.List.{Contains}
use Rattle.hn_base.proofs.AscendingLists.{Contains-tail}

-- ---- an element with a fact that can be decided

-- one is there, or none has it
abbrev pub Found : {X : Type 0} → (X → Type 0) → List X → Type 0
Found {X} P xs = ((x : X) × Contains xs x × P x) ⊎ ((x : X) → Contains xs x → ¬ P x)

pub find_one : {X : Type 0} (P : X → Type 0) → ((x : X) → P x ⊎ ¬ P x) → (xs : List X) → Found P xs
find_one P decide [] = inr (λ x h. absurd (nothing_in x h))
find_one {X} P decide (y ∷ xs) =
    elim (decide y) [
      | inl yes' ↦ inl (y, Contains-head y xs, yes')
      | inr no' ↦
          elim (find_one P decide xs) [
            | inl found ↦ inl (found.0, Contains-tail y xs found.0 found.1, found.2)
            | inr none ↦ inr (λ x h p. elim (Contains-cases y xs x h) [
              | inl same ↦ no' (subst P (sym same) p)
              | inr later ↦ none x later p
            ])
          ]
    ]
