-- The text of a list of TLVs: of each its line, and below it the lines of the TLVs within.
use Rattle.std.specs.Prelude.{◌≡◌, ℕ, zero, suc, ◌+◌, ◌-◌, ◌≤◌, ◌⊎◌, List, [], ◌∷◌, ◌++◌, length, drop, codes}
use Rattle.std.specs.Fmt.{decimal}
use Rattle.hn_tlv.specs.Grammar.{PlainTlv, tlv_size, IsTlvList, HasTlvs}
use Rattle.hn_typed.specs.Item.{PlainItem}
use Rattle.hn_decode.specs.Line.{within, deepest, IsLineAbove, IsLineAlone}

-- the texts of TLVs one after another, of which the first lies at this place
abbrev pub TextsInOrder : (ℕ → PlainTlv → List ℕ → Type 0) → ℕ → List PlainTlv → List ℕ → Type 0
TextsInOrder Shows place [] text = text ≡ []
TextsInOrder Shows place (tlv ∷ tlvs) text =
    (front rest : List ℕ) × Shows place tlv front × TextsInOrder Shows (place + tlv_size (length tlv.value)) tlvs rest × (text ≡ front ++ rest)

-- the bytes, which lie at this place, are a list of TLVs, and this is their text
pub record ShowsList (Shows : ℕ → PlainTlv → List ℕ → Type 0) (place : ℕ) (bytes text : List ℕ) : Type 0 where
  pub tlvs : List PlainTlv
  pub is_list : IsTlvList tlvs bytes
  pub in_order : TextsInOrder Shows place tlvs text

-- the place of what lies within an item, which is the end of the TLV's value
abbrev pub place_within : ℕ → PlainTlv → PlainItem → ℕ
place_within place tlv item = place + 4 + (length tlv.value - length (within item))

-- the line of an item, and below it the text of the TLVs within
pub record ShowsWithin (Shows : ℕ → PlainTlv → List ℕ → Type 0) (below place : ℕ) (tlv : PlainTlv) (text : List ℕ) : Type 0 where
  pub item : PlainItem
  pub line : List ℕ
  pub lines : List ℕ
  pub above : IsLineAbove below place tlv item line
  pub inside : ShowsList Shows (place_within place tlv item) (within item) lines
  pub text_is : text ≡ line ++ lines

-- the text of the TLV at this place, with so many levels below its own
unfoldable pub Shows : ℕ → ℕ → PlainTlv → List ℕ → Type 0
Shows zero place tlv text = IsLineAlone zero place tlv text
Shows (suc below) place tlv text = IsLineAlone (suc below) place tlv text ⊎ ShowsWithin (Shows below) (suc below) place tlv text

-- the first line of a text: how many TLVs there are
abbrev pub tlvs_line : ℕ → List ℕ
tlvs_line count = codes "tlvs " ++ decimal count ++ codes "\n"

-- the text of a datagram: how many TLVs it is a list of, and their texts in order
pub record IsDecodeText (bytes text : List ℕ) : Type 0 where
  pub lines : List ℕ
  pub shown : ShowsList (Shows deepest) 0 bytes lines
  pub text_is : text ≡ tlvs_line (length shown.tlvs) ++ lines

-- The text of the TLVs before a place `at` of the bytes, which lie at this place: with the text of the TLVs from there
-- on it is the text of all.
pub record IsShownTo (Shows : ℕ → PlainTlv → List ℕ → Type 0) (place : ℕ) (bytes : List ℕ) (at : ℕ) (text : List ℕ) : Type 0 where
  pub before_end : at ≤ length bytes
  pub is_list : HasTlvs (drop at bytes)
  pub goes_on : (rest : List ℕ) → ShowsList Shows (place + at) (drop at bytes) rest → ShowsList Shows place bytes (text ++ rest)

-- the lines of a datagram before a place
abbrev pub IsTextTo : List ℕ → ℕ → List ℕ → Type 0
IsTextTo bytes at lines = IsShownTo (Shows deepest) 0 bytes at lines

-- the text was longer by a text of that kind
abbrev pub GrowsByText : (List ℕ → Type 0) → List ℕ → List ℕ → Type 0
GrowsByText IsAdded old new = (added : List ℕ) × IsAdded added × (new ≡ old ++ added)
