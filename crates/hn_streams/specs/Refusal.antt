-- What is written where something is refused.
use Rattle.std.specs.Prelude.{ℕ, List, [], ◌∷◌, ◌++◌, codes}
use Rattle.std.specs.Fmt.{decimal}

-- the last line of a run that was refused
abbrev pub refused_line : ℕ → ℕ → List ℕ
refused_line line code = codes "refused " ++ decimal line ++ codes " " ++ decimal code ++ 10 ∷ []
