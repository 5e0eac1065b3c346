-- Tables of which the first line decides whose condition holds.
use Rattle.std.specs.Prelude.{◌≡◌, ◌⊎◌, ℕ}

-- what a line says where its condition holds, and else what the lines after it say
abbrev pub LineElse : Type 0 → Type 0 → Type 0 → Type 0
LineElse condition answer lines = (condition × answer) ⊎ (¬ condition × lines)

-- a number that names a cause, where it holds, and else what the others say
abbrev pub OnCause : Type 0 → ℕ → (ℕ → Type 0) → ℕ → Type 0
OnCause cause number others why = LineElse cause (why ≡ number) (others why)

abbrev pub NoCause : ℕ → Type 0
NoCause why = ⊥
