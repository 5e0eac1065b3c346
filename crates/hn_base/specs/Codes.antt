-- Codes with which something is refused.
use Rattle.std.specs.Prelude.{ℕ, Option, None, Some}

-- this code where something is not there, and else what is asked of it
abbrev pub unless_there : {A : Type 0} → ℕ → (A → Option ℕ) → Option A → Option ℕ
unless_there code asked None = Some code
unless_there code asked (Some x) = asked x
