use Rattle.std.specs.Prelude.{◌≡◌, ℕ, ◌≤◌, List, [], ◌∷◌, length, map, ◌==◌, if◌then◌else◌}
use Rattle.std.specs.Char.{digit_char}
use Rattle.std.specs.Int.Digits.{digits_of}
use Rattle.std.specs.Str.Parse.{IsNumeral, digits_value}

-- a number in a base up to 16: its digits, the highest first and in lower case, with no leading zeros, and `0` for zero
abbrev pub numeral : ℕ → ℕ → List ℕ
numeral base n = if n == 0 then 48 ∷ [] else map digit_char (digits_of base n)

-- one to `most` digits of a base, of either case and leading zeros among them, that write n
pub record IsShortNumeral (base most : ℕ) (text : List ℕ) (n : ℕ) : Type 0 where
  pub digits : IsNumeral base text
  pub short : length text ≤ most
  pub value : digits_value base text ≡ n
