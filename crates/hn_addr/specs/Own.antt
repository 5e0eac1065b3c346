-- The least own address inside a prefix.
use Rattle.std.specs.Prelude.{◌≡◌, ◌⊎◌, ℕ, ◌≤◌, List, Contains, Option, MatchOption}
use Rattle.hn_pair.specs.declared.assigned.Assigned.{Assigned}
use Rattle.hn_base.specs.Prefix.{IsInside}
use Rattle.hn_own.specs.Addresses.{OwnAddress}
use Rattle.hn_addr.specs.Addresses.{IsLeastOwn}

-- an own address is of the endpoint of an assignment, and inside its prefix
pub record IsOwnInside (c : Assigned) (a : OwnAddress) : Type 0 where
  pub endpoint : a.0 ≡ c.endpoint
  pub inside : IsInside a.1 c.prefix

-- none is
abbrev pub HasNoneInside : List OwnAddress → Assigned → Type 0
HasNoneInside own c = (x : ℕ) → Contains own (c.endpoint, x) → ¬ IsInside x c.prefix

-- the lesser of two
pub record IsLesser (x y lesser : ℕ) : Type 0 where
  pub one : (lesser ≡ x) ⊎ (lesser ≡ y)
  pub first : lesser ≤ x
  pub second : lesser ≤ y

-- the least, if there is one
abbrev pub IsLeastFound : List OwnAddress → Assigned → Option ℕ → Type 0
IsLeastFound own c found = MatchOption found (HasNoneInside own c) (IsLeastOwn own c)
