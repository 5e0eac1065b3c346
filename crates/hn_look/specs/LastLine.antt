-- What is kept of a transcript to find the refusal with which it ends.
use Rattle.std.specs.Prelude.{◌≡◌, ◌⊎◌, ◌==◌, ℕ, Bool, true, not, List, [], ◌∷◌, ◌++◌}
use Rattle.std.specs.List.{list_all}

-- a byte other than `r`
abbrev pub is_other : ℕ → Bool
is_other byte = not (byte == 114)

abbrev pub AreOther : List ℕ → Type 0
AreOther bytes = list_all is_other bytes ≡ true

-- what follows the last `r` of what was written, with that byte; all that was written, if it has none
pub record IsFromLast (written kept : List ℕ) : Type 0 where
  pub front : List ℕ
  pub written_is : written ≡ front ++ kept
  pub begins : ((tail : List ℕ) × (kept ≡ 114 ∷ tail) × AreOther tail) ⊎ ((front ≡ []) × AreOther kept)
