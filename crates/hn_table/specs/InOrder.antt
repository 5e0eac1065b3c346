-- Texts of several things, one after another.
use Rattle.std.specs.Prelude.{◌≡◌, ℕ, List, [], ◌∷◌, ◌++◌}

-- each has a text, of which this is so; all of them are the texts in this order
abbrev pub InOrder : {A : Type 0} → (A → List ℕ → Type 0) → List A → List ℕ → Type 0
InOrder Shows [] text = text ≡ []
InOrder Shows (x ∷ xs) text = (front rest : List ℕ) × Shows x front × InOrder Shows xs rest × (text ≡ front ++ rest)

-- the text grew by a text, of which this is so
pub record Adds (IsAdded : List ℕ → Type 0) (before after : List ℕ) : Type 0 where
  pub added : List ℕ
  pub is_added : IsAdded added
  pub after_is : after ≡ before ++ added
