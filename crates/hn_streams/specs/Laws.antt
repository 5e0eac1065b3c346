-- Laws of writing.
use Rattle.std.specs.Prelude.{ℕ, List, ◌++◌, Option}
use Rattle.std.specs.Io.KnownBytes.{Appends}

-- What is appended in two pieces is appended.
abbrev pub PiecesAppend : Type 0
PiecesAppend =
    (before between after : Option (List ℕ)) (first second : List ℕ)
    → Appends before between first → Appends between after second → Appends before after (first ++ second)
