-- Whether it is so, as a word.
use Rattle.std.specs.Prelude.{Bool, if◌then◌else◌, ℕ, List, codes}

abbrev pub yes_no : Bool → List ℕ
yes_no answer = if answer then codes "yes" else codes "no"
