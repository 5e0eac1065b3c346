-- A greatest element of a list, among those that have a fact.
use Rattle.hn_base.proofs.Names.{◌≡◌, ◌⊎◌, inl, inr, List, [], ◌∷◌, refl, sym, subst, Less, Equal, Greater, IsTotalOrder}
use Rattle.hn_base.proofs.Names.{Ordering}
use Rattle.std.specs.List.{Contains}
use Rattle.hn_base.proofs.AscendingLists.{not_below_itself, nothing_in, Contains-head, Contains-tail, Contains-cases}

-- one than which no other with the fact is greater
pub record IsGreatestOf {X : Type 0} (cmp : X → X → Ordering) (P : X → Type 0) (xs : List X) (x : X) : Type 0 where
  pub is_in : Contains xs x
  pub fact : P x
  pub greatest : (y : X) → Contains xs y → P y → ¬ (cmp x y ≡ Less)

module _ {X : Type 0} {cmp : X → X → Ordering} (o : IsTotalOrder cmp) (P : X → Type 0) where
  -- the first of a list, where no later one has the fact
  first_is_greatest : (y : X) (xs : List X) → P y → ((x : X) → Contains xs x → ¬ P x) → IsGreatestOf cmp P (y ∷ xs) y
  first_is_greatest y xs p none = record {
    is_in = Contains-head y xs;
    fact = p;
    greatest = λ z h q less. elim (Contains-cases y xs z h) [
      | inl same ↦ not_below_itself cmp o y z same less
      | inr later ↦ none z later q
    ];
  }

  -- the first, where it is above the greatest of the others
  above_greatest : (x y : X) (xs : List X) → IsGreatestOf cmp P xs x → P y → cmp x y ≡ Less → IsGreatestOf cmp P (y ∷ xs) y
  above_greatest x y xs g p above = record {
    is_in = Contains-head y xs;
    fact = p;
    greatest = λ z h q less. elim (Contains-cases y xs z h) [
      | inl same ↦ not_below_itself cmp o y z same less
      | inr later ↦ g.greatest z later q (o.trans x y z above less)
    ];
  }

  -- the greatest of the others, where the first is not above it or lacks the fact
  still_greatest : (x y : X) (xs : List X) → IsGreatestOf cmp P xs x → (P y → ¬ (cmp x y ≡ Less)) → IsGreatestOf cmp P (y ∷ xs) x
  still_greatest x y xs g not_above = record {
    is_in = Contains-tail y xs x g.is_in;
    fact = g.fact;
    greatest = λ z h q less. elim (Contains-cases y xs z h) [
      | inl same ↦ not_above (subst P (sym same) q) (subst (λ w. cmp x w ≡ Less) (sym same) less)
      | inr later ↦ g.greatest z later q less
    ];
  }

  next_greatest : (x y : X) (xs : List X) → IsGreatestOf cmp P xs x → P y → (z : X) × IsGreatestOf cmp P (y ∷ xs) z
  next_greatest x y xs g p = go (cmp x y) refl
    where
      go : (r : Ordering) → cmp x y ≡ r → (z : X) × IsGreatestOf cmp P (y ∷ xs) z
      go Less e = (y, above_greatest x y xs g p e)
      go Equal e = (x, still_greatest x y xs g (λ q less. absurd (cc)))
      go Greater e = (x, still_greatest x y xs g (λ q less. absurd (cc)))

  -- a list has a greatest one with a fact that can be decided, or none has it
  pub greatest_of : ((x : X) → P x ⊎ ¬ P x) → (xs : List X) → ((x : X) × IsGreatestOf cmp P xs x) ⊎ ((x : X) → Contains xs x → ¬ P x)
  greatest_of decide [] = inr (λ x h. absurd (nothing_in x h))
  greatest_of decide (y ∷ xs) =
      elim (greatest_of decide xs) [
        | inl found ↦
            elim (decide y) [
              | inl p ↦ inl (next_greatest found.0 y xs found.1 p)
              | inr lacks ↦ inl (found.0, still_greatest found.0 y xs found.1 (λ p. absurd (lacks p)))
            ]
        | inr none ↦
            elim (decide y) [
              | inl p ↦ inl (y, first_is_greatest y xs p none)
              | inr lacks ↦ inr (λ x h p. elim (Contains-cases y xs x h) [
                | inl same ↦ lacks (subst P (sym same) p)
                | inr later ↦ none x later p
              ])
            ]
      ]
