-- The law of the words that calls take.
use Rattle.std.specs.Prelude.{ℕ, List, ◌++◌, Option}
use Rattle.hn_base.specs.Words.{Took}

-- Two calls, one after the other, take the words of the first and then those of the second.
abbrev pub WordsJoin : Type 0
WordsJoin =
    (told between told_after : Option (ℕ → ℕ)) (first second : List ℕ)
    → Took told first between → Took between second told_after → Took told (first ++ second) told_after
