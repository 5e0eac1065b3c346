-- The text of a play: lines, and where each came up.
use Rattle.std.specs.Prelude.{ℕ, List, map}
use Rattle.std.specs.List.{flat_map}
use Rattle.hn_world.specs.declared.parts.Parts.{Parts}

-- a line of text, and the world in which it came up
pub record Told : Type 0 where
  pub world : Parts
  pub line : List ℕ

-- lines that come up in a world, one after another
abbrev pub told : Parts → List (List ℕ) → List Told
told w lines = map (λ line. record { world = w; line = line }) lines

abbrev pub bytes_of : List Told → List ℕ
bytes_of text = flat_map (λ t. t.line) text
