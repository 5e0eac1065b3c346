-- The first of some moments that come.
use Rattle.std.specs.Prelude.{◌≡◌, ℕ, ◌<◌, ◌≤◌, ◌⊎◌, List, Contains}

-- of the moments P after now and of `best` this is the least
pub record IsSooner (P : ℕ → Type 0) (now best n : ℕ) : Type 0 where
  pub at_most : n ≤ best
  pub least : (m : ℕ) → P m → now < m → n ≤ m
  pub is : (n ≡ best) ⊎ (P n × (now < n))

-- a moment of one of these
abbrev pub IsOfElement : {A : Type 0} → (A → ℕ → Type 0) → List A → ℕ → Type 0
IsOfElement {A} P xs m = (x : A) × Contains xs x × P x m
