-- Lines of text, and what of them a sink holds.
use Rattle.std.specs.Prelude.{◌≡◌, ℕ, List, ◌∷◌, ◌++◌}
use Rattle.std.specs.List.{flat_map}
use Rattle.hn_streams.specs.Output.{IsPart}

-- lines, one after another
abbrev pub joined : List (List ℕ) → List ℕ
joined lines = flat_map (λ line. line) lines

-- of these lines a sink holds those before some one, and a proper part of that
pub record AreCut (lines : List (List ℕ)) (before : List (List ℕ)) (cut : List ℕ) (part : List ℕ) : Type 0 where
  pub rest : List (List ℕ)
  pub lines_are : lines ≡ before ++ cut ∷ rest
  pub in_part : IsPart part cut
