-- How the choosing goes on.
use Rattle.std.specs.Prelude.{◌≡◌, ℕ, ◌≤◌, List, ◌++◌, Option}
use Rattle.hn_base.specs.Prefix.{PlainPrefix}
use Rattle.hn_base.specs.Words.{Begins, Took}
use Rattle.hn_own.specs.Addresses.{OwnAddress}
use Rattle.hn_rules.specs.declared.state.State.{State}
use Rattle.hn_addr.specs.Addresses.{start_of, ahead, IsChoosing}
use Rattle.hn_addr.specs.Numbers.{FitsBeside}
use Rattle.hn_addr.specs.declared.choosing.Choosing.{Choosing}
use Rattle.hn_addr.specs.declared.others.Others.{Others}

-- a draw moved by exactly the words that were added
pub record Draws (told : Option (ℕ → ℕ)) (before : List ℕ) (told_after : Option (ℕ → ℕ)) (after : List ℕ) : Type 0 where
  pub words : List ℕ
  pub added : after ≡ before ++ words
  pub took : Took told words told_after

-- the first number that makes a free address inside a prefix, from the start that a word says
pub record IsFirstAround (others : Others) (list : List OwnAddress) (prefix : PlainPrefix) (word k : ℕ) : Type 0 where
  pub fits : FitsBeside others list prefix k
  pub first : (j : ℕ) → FitsBeside others list prefix j → ahead (start_of word) k ≤ ahead (start_of word) j

-- Over one stream of words the choosing has one result.
abbrev pub ChoosingIsUnique : Type 0
ChoosingIsUnique =
    (s : State) (a b : Choosing) (stream : ℕ → ℕ) → IsChoosing s a → IsChoosing s b → Begins a.words stream → Begins b.words stream → a ≡ b
