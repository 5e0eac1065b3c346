-- What an event gives a router fits: delegated prefixes with their lifetimes, and the length of a private link.
use Rattle.std.specs.Prelude.{ℕ, ◌^◌, ◌<◌, ◌≤◌, Option, Some, None}
use Rattle.hn_base.specs.Prefix.{PlainPrefix, IsPrefix}

-- a delegated prefix is one, and its lifetimes have 4 bytes
pub record IsRangedDelegation (prefix : PlainPrefix) (valid preferred : ℕ) : Type 0 where
  pub prefix_is : IsPrefix prefix
  pub valid_fits : valid < 2 ^ 32
  pub preferred_fits : preferred < 2 ^ 32

-- the prefixes of a private link, if there is one, have from 1 to 64 bits
abbrev pub IsPrivateLength : Option ℕ → Type 0
IsPrivateLength None = Unit {0}
IsPrivateLength (Some length) = (1 ≤ length) × (length ≤ 64)
