-- The words of a line after its first: which text writes which value.
use Rattle.std.specs.Prelude.{◌≡◌, ℕ, ◌^◌, ◌-◌, ◌≤◌, ◌<◌, List, [], ◌∷◌, length, codes, Ok, Option, Some, None}
use Rattle.std.specs.Fmt.{decimal}
use Rattle.hex.specs.Hex.{IsBytes, decode_of}
use Rattle.hn_base.specs.HexText.{IsIdText, hex_text, id_text}
use Rattle.hn_base.specs.Name.{name_text}
use Rattle.hn_base.specs.Numeral.{IsShortNumeral}
use Rattle.hn_base.specs.declared.ids.EpId.{EpId}
use Rattle.hn_base.specs.declared.ids.NodeId.{NodeId}
use Rattle.hn_base.specs.declared.letter.Letter.{Letter}
use Rattle.hn_base.specs.declared.letter.Letter.TheVariants.{M, P, H, L}
use Rattle.hn_base.specs.declared.name.Name.{Name}
use Rattle.hn_base.specs.Prefix.{PlainPrefix, IsPrefix}
use Rattle.hn_prefix.specs.PrefixText.{IsPrefixText, prefix_text_of}
use Rattle.hn_script.specs.declared.line.How.{How}
use Rattle.hn_script.specs.declared.line.How.TheVariants.{Uni, Multi, Far}

-- a value that a word writes; a number has its lowest and highest value beside it; no length is written `off`
pub data Field : Type 0 where
  Named : (name : Name) → Field
  Node : (id : NodeId) → Field
  Endpoint : (e : EpId) → Field
  Number : (lowest highest n : ℕ) → Field
  Prefixed : (prefix : PlainPrefix) → Field
  Capability : (letter : Letter) → Field
  Way : (how : How) → Field
  Hex : (bytes : List ℕ) → Field
  Length : (bits : Option ℕ) → Field

-- the letter of each capability (RFC 7788, section 10.1)
abbrev pub letter_text : Letter → List ℕ
letter_text M = codes "M"
letter_text P = codes "P"
letter_text H = codes "H"
letter_text L = codes "L"

-- the word of each way
abbrev pub way_text : How → List ℕ
way_text Uni = codes "uni"
way_text Multi = codes "multi"
way_text Far = codes "far"

-- bytes in hexadecimal digits of either case, two for each byte; `-` for no bytes
abbrev pub IsHexWord : List ℕ → List ℕ → Type 0
IsHexWord [] word = word ≡ codes "-"
IsHexWord (byte ∷ bytes) word = decode_of word ≡ Ok (byte ∷ bytes)

-- the text of a name, which is kept in 16 bytes
pub record IsNameWord (name : Name) (word : List ℕ) : Type 0 where
  pub text : word ≡ name_text name
  pub room : length name.bytes ≡ 16

-- one to twenty decimal digits of a number in a range
pub record IsNumberText (lowest highest : ℕ) (word : List ℕ) (n : ℕ) : Type 0 where
  pub numeral : IsShortNumeral 10 20 word n
  pub low : lowest ≤ n
  pub high : n ≤ highest

-- the greatest number of an endpoint
abbrev pub last_endpoint : ℕ
last_endpoint = 2 ^ 32 - 1

-- the greatest length of the prefixes of a link
abbrev pub longest_link : ℕ
longest_link = 64

-- the word writes the value
abbrev pub IsField : Field → List ℕ → Type 0
IsField (Named name) word = IsNameWord name word
IsField (Node id) word = IsIdText word id.0
IsField (Endpoint e) word = IsNumberText 1 last_endpoint word e.0
IsField (Number lowest highest n) word = IsNumberText lowest highest word n
IsField (Prefixed prefix) word = IsPrefixText word prefix
IsField (Capability letter) word = word ≡ letter_text letter
IsField (Way how) word = word ≡ way_text how
IsField (Hex bytes) word = IsHexWord bytes word
IsField (Length None) word = word ≡ codes "off"
IsField (Length (Some bits)) word = IsNumberText 1 longest_link word bits

-- the word that is printed for a value
abbrev pub field_text : Field → List ℕ
field_text (Named name) = name_text name
field_text (Node id) = id_text id.0
field_text (Endpoint e) = decimal e.0
field_text (Number lowest highest n) = decimal n
field_text (Prefixed prefix) = prefix_text_of prefix
field_text (Capability letter) = letter_text letter
field_text (Way how) = way_text how
field_text (Hex bytes) = hex_text bytes
field_text (Length None) = codes "off"
field_text (Length (Some bits)) = decimal bits

-- the value is in its range
abbrev pub IsFieldInRange : Field → Type 0
IsFieldInRange (Named name) = length name.bytes ≡ 16
IsFieldInRange (Node id) = id.0 < 2 ^ 32
IsFieldInRange (Endpoint e) = (1 ≤ e.0) × (e.0 ≤ last_endpoint)
IsFieldInRange (Number lowest highest n) = (lowest ≤ n) × (n ≤ highest) × (n < 2 ^ 64)
IsFieldInRange (Prefixed prefix) = IsPrefix prefix
IsFieldInRange (Capability letter) = Unit {0}
IsFieldInRange (Way how) = Unit {0}
IsFieldInRange (Hex bytes) = IsBytes bytes
IsFieldInRange (Length None) = Unit {0}
IsFieldInRange (Length (Some bits)) = (1 ≤ bits) × (bits ≤ longest_link)
