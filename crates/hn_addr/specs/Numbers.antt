-- The first number that fits.
use Rattle.std.specs.Prelude.{ℕ, ◌+◌, ◌-◌, ◌^◌, ◌<◌, ◌≤◌, List, Contains}
use Rattle.hn_base.specs.Prefix.{PlainPrefix}
use Rattle.hn_own.specs.Addresses.{OwnAddress}
use Rattle.hn_addr.specs.Addresses.{HasCome}
use Rattle.hn_addr.specs.declared.others.Others.{Others}

-- an address is no other node's, and did not come already
pub record IsFreeAddress (others : Others) (list : List OwnAddress) (x : ℕ) : Type 0 where
  pub free : ¬ Contains others.addresses.items x
  pub new : ¬ HasCome list x

-- the number makes an address inside the prefix that is free
pub record FitsBeside (others : Others) (list : List OwnAddress) (prefix : PlainPrefix) (k : ℕ) : Type 0 where
  pub low : 1 ≤ k
  pub high : k ≤ 65535
  pub inside : k < 2 ^ (128 - prefix.len)
  pub free : IsFreeAddress others list (prefix.bits + k)

-- none does from a number on
abbrev pub HasNoneFrom : Others → List OwnAddress → PlainPrefix → ℕ → Type 0
HasNoneFrom others list prefix from = (j : ℕ) → from ≤ j → ¬ FitsBeside others list prefix j

-- the first that does from a number on
pub record IsFirstFrom (others : Others) (list : List OwnAddress) (prefix : PlainPrefix) (from k : ℕ) : Type 0 where
  pub fits : FitsBeside others list prefix k
  pub from_on : from ≤ k
  pub first : (j : ℕ) → from ≤ j → FitsBeside others list prefix j → k ≤ j
