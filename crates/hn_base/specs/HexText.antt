-- Bytes and identifiers in hexadecimal.
use Rattle.std.specs.Prelude.{◌≡◌, ℕ, List, [], ◌∷◌, length, codes}
use Rattle.std.specs.Int.{w32, to_be_bytes}
use Rattle.hex.specs.Hex.{encode_lower}
use Rattle.hn_base.specs.Numeral.{IsShortNumeral}

-- bytes in lower-case hexadecimal, two digits each; `-` for no bytes
abbrev pub hex_text : List ℕ → List ℕ
hex_text [] = codes "-"
hex_text (byte ∷ bytes) = encode_lower (byte ∷ bytes)

-- the identifier of a node, in 8 lower-case hexadecimal digits
abbrev pub id_text : ℕ → List ℕ
id_text id = encode_lower (to_be_bytes w32 id)

-- eight hexadecimal digits, of either case, that write an identifier
pub record IsIdText (digits : List ℕ) (id : ℕ) : Type 0 where
  pub eight : length digits ≡ 8
  pub numeral : IsShortNumeral 16 8 digits id
