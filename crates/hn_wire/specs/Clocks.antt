-- What a clock tells.
use Rattle.std.specs.Prelude.{◌≡◌, ℕ, ◌≤◌, ◌^◌, List, [], ◌∷◌, ⊤, Option, None, Some}

-- the readings that are left after one: the last is never used up
abbrev pub rest_of : List ℕ → List ℕ
rest_of [] = []
rest_of (reading ∷ []) = reading ∷ []
rest_of (reading ∷ next ∷ readings) = next ∷ readings

-- a reading is the next of those that are left
abbrev pub ReadsOf : List ℕ → ℕ → List ℕ → Type 0
ReadsOf [] reading after = ⊥
ReadsOf (next ∷ readings) reading after = (reading ≡ next) × (after ≡ rest_of (next ∷ readings))

abbrev pub ReadsClock : Option (List ℕ) → ℕ → Option (List ℕ) → Type 0
ReadsClock None reading after = ⊤
ReadsClock (Some before) reading None = ⊥
ReadsClock (Some before) reading (Some after) = ReadsOf before reading after

-- readings in order, none below `last`, and each at most 2^48
abbrev pub AreReadings : ℕ → List ℕ → Type 0
AreReadings last [] = ⊤
AreReadings last (reading ∷ readings) = (last ≤ reading) × (reading ≤ 2 ^ 48) × AreReadings reading readings

-- a clock in memory: its last reading, and those that are left
pub record MemoryClock : Type 0 where
  pub last : ℕ
  pub left : List ℕ
