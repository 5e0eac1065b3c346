-- What a search finds first: in a list, and before another search. That it finds nothing is `None`.
use Rattle.std.specs.Prelude.{◌≡◌, ◌⊎◌, ℕ, List, Option, None, Some, slice_get, take, All}

-- it is found of one of a list, and nothing is found of those before it
pub record IsFoundOf {X Y : Type 0} (finds : X → Option Y → Type 0) (xs : List X) (y : Y) : Type 0 where
  pub place : ℕ
  pub one : X
  pub at : slice_get xs place ≡ Some one
  pub found : finds one (Some y)
  pub before : All (λ x. finds x None) (take place xs)

-- what is found of the first of a list of which something is; nothing, if nothing is found of any
abbrev pub IsFirstFound : {X Y : Type 0} → (X → Option Y → Type 0) → List X → Option Y → Type 0
IsFirstFound finds xs None = All (λ x. finds x None) xs
IsFirstFound finds xs (Some y) = IsFoundOf finds xs y

-- what one search finds, or else what another does
abbrev pub OrElse : {Y : Type 0} → (Option Y → Type 0) → (Option Y → Type 0) → Option Y → Type 0
OrElse finds otherwise None = finds None × otherwise None
OrElse finds otherwise (Some y) = finds (Some y) ⊎ (finds None × otherwise (Some y))

-- at most one thing is what a search finds
abbrev pub FindsOne : {Y : Type 0} → (Option Y → Type 0) → Type 0
FindsOne {Y} finds = (x y : Option Y) → finds x → finds y → x ≡ y
