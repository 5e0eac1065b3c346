-- Laws of hashes.
use Rattle.std.specs.Prelude.{◌≡◌, ℕ, List, length, All}
use Rattle.hn_base.specs.Byte.{IsByte}
use Rattle.hn_hash.specs.Hash.{hash_of}

-- A hash has eight bytes.
abbrev pub HashHasEightBytes : Type 0
HashHasEightBytes = (text : List ℕ) → (length (hash_of text) ≡ 8) × All IsByte (hash_of text)
