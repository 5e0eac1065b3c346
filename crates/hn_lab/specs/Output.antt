-- What of the lines of a text a sink holds.
use Rattle.std.specs.Prelude.{◌≡◌, ℕ, List, [], ◌∷◌, ◌++◌}
use Rattle.hn_streams.specs.Output.{IsPart}
use Rattle.hn_play.specs.Told.{Told, bytes_of}

-- what is written of a text that is cut: all lines but the last that came up, and a proper part of that one
pub record IsCutText (text : List Told) (written : List ℕ) : Type 0 where
  pub before : List Told
  pub last : Told
  pub part : List ℕ
  pub text_is : text ≡ before ++ last ∷ []
  pub in_part : IsPart part last.line
  pub written_is : written ≡ bytes_of before ++ part
