-- The texts of IPv6 prefixes: an address, `/` and a length (RFC 4291, section 2.3).
use Rattle.std.specs.Prelude.{◌≡◌, ℕ, List, ◌∷◌, ◌++◌, Option, None, Some}
use Rattle.hn_base.specs.Prefix.{PlainPrefix, IsPrefix}
use Rattle.std.specs.Fmt.{decimal}
use Rattle.hn_base.specs.Numeral.{IsShortNumeral}
use Rattle.hn_prefix.specs.AddressText.{address_text_of, IsAddressText}

-- the written form of a prefix: `/` is 47
unfoldable pub prefix_text_of : PlainPrefix → List ℕ
prefix_text_of p = address_text_of p.bits ++ 47 ∷ decimal p.len

-- one to three decimal digits
abbrev pub IsLengthText : List ℕ → ℕ → Type 0
IsLengthText digits len = IsShortNumeral 10 3 digits len

-- the text is a read form of the prefix
pub record IsPrefixText (text : List ℕ) (p : PlainPrefix) : Type 0 where
  pub address_text : List ℕ
  pub length_text : List ℕ
  pub parts : text ≡ address_text ++ 47 ∷ length_text
  pub address : IsAddressText address_text p.bits
  pub len : IsLengthText length_text p.len
  pub prefix : IsPrefix p

-- the text of an address, or of the prefix of that length
abbrev pub text_of : ℕ → Option ℕ → List ℕ
text_of address None = address_text_of address
text_of address (Some len) = prefix_text_of (record { bits = address; len = len })
