-- Which words a call took from a draw. Each crate that takes random words says it by these definitions.
use Rattle.std.specs.Prelude.{◌≡◌, ℕ, ◌+◌, List, ◌++◌, length, slice_index, EachIndex, Option, Some}

-- these are the first words of the stream
abbrev pub Begins : List ℕ → (ℕ → ℕ) → Type 0
Begins taken stream = EachIndex taken (λ i. slice_index taken i ≡ stream i)

-- a draw from which these words of the stream were taken tells those that follow them
pub record IsAt (told : Option (ℕ → ℕ)) (stream : ℕ → ℕ) (taken : List ℕ) : Type 0 where
  pub begins : Begins taken stream
  pub rest : told ≡ Some (λ place. stream (length taken + place))

-- Between two moments a draw went on from some words taken to others, where it tells its words. What it told before
-- and after stands first and third.
abbrev pub Drew : Option (ℕ → ℕ) → List ℕ → Option (ℕ → ℕ) → List ℕ → Type 0
Drew told taken told_after taken_after = (stream : ℕ → ℕ) → IsAt told stream taken → IsAt told_after stream taken_after

-- a call took exactly these words, in this order, whatever was taken before
abbrev pub Took : Option (ℕ → ℕ) → List ℕ → Option (ℕ → ℕ) → Type 0
Took told taken told_after = (before : List ℕ) → Drew told before told_after (before ++ taken)
