-- When lifetimes of a router's own delegated prefixes end.
use Rattle.std.specs.Prelude.{◌≡◌, ℕ, List, Some}
use Rattle.hn_base.specs.Sooner.{IsOfElement}
use Rattle.hn_own.specs.declared.own_prefixes.OwnPrefix.{OwnPrefix}

-- the valid lifetime of an own delegated prefix ends then
abbrev pub IsOwnPrefixEnd : OwnPrefix → ℕ → Type 0
IsOwnPrefixEnd own m = own.valid_until ≡ Some m

-- that moment, of one of these prefixes
abbrev pub IsOwnEnd : List OwnPrefix → ℕ → Type 0
IsOwnEnd list = IsOfElement IsOwnPrefixEnd list
