-- The pad bytes of one TLV.
use Rattle.std.specs.Prelude.{◌≡◌, ◌≢◌, ℕ, ◌<◌, ◌⊎◌, List, ◌∷◌, ◌++◌, replicate}

-- zero bytes up to this offset, and there the bytes end
abbrev pub ZerosEndAt : List ℕ → ℕ → Type 0
ZerosEndAt bytes offset = bytes ≡ replicate offset 0

-- zero bytes up to this offset, and there a byte that is not zero
pub record ZerosBreakAt (bytes : List ℕ) (offset : ℕ) : Type 0 where
  pub byte : ℕ
  pub rest : List ℕ
  pub parts : bytes ≡ replicate offset 0 ++ byte ∷ rest
  pub not_zero : byte ≢ 0

-- why the bytes do not begin with this many zeros, by the first that is missing or is not zero
abbrev pub IsPaddingFault : ℕ → List ℕ → ℕ → ℕ → Type 0
IsPaddingFault count bytes offset why =
    (offset < count) × (((why ≡ 3) × ZerosEndAt bytes offset) ⊎ ((why ≡ 4) × ZerosBreakAt bytes offset))
