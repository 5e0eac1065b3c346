-- The words that several calls took, one call after another.
use Rattle.hn_base.proofs.Names.{ℕ, List, ◌++◌, Option, subst, append_assoc, IsAt, Took}

-- two calls took the words of the first, and then those of the second
pub took_both : (told between told_after : Option (ℕ → ℕ)) (first second : List ℕ) → Took told first between → Took between second told_after → Took told (first ++ second) told_after
took_both told between told_after first second a b before stream at =
    subst (IsAt told_after stream) (append_assoc before first second) (b (before ++ first) stream (a before stream at))
