-- The texts of IPv6 addresses: the one that is written, and those that are read.
use Rattle.std.specs.Prelude.{◌≡◌, ℕ, ◌+◌, ◌-◌, ◌/◌, ◌%◌, ◌^◌, ◌<◌, ◌≤◌, ◌⊎◌, List, [], ◌∷◌, ◌++◌, length, take, drop, replicate, codes}
use Rattle.std.specs.Int.Digits.{number_from_digits}
use Rattle.std.specs.Net.Text.{hex_groups_text}
use Rattle.hn_base.specs.Numeral.{numeral, IsShortNumeral}

-- the eight groups of 16 bits of an address, the highest first (RFC 4291, section 2.2)
unfoldable pub groups : ℕ → List ℕ
groups ip =
    ip / 2 ^ 112 % 2 ^ 16 ∷ ip / 2 ^ 96 % 2 ^ 16 ∷ ip / 2 ^ 80 % 2 ^ 16 ∷ ip / 2 ^ 64 % 2 ^ 16
    ∷ ip / 2 ^ 48 % 2 ^ 16 ∷ ip / 2 ^ 32 % 2 ^ 16 ∷ ip / 2 ^ 16 % 2 ^ 16 ∷ ip % 2 ^ 16 ∷ []

-- the address of some groups, which are its digits in base 65536
abbrev pub address_of_groups : List ℕ → ℕ
address_of_groups gs = number_from_digits 65536 gs

-- ---- the written form (RFC 5952, section 4)

-- a group in lower-case hexadecimal digits, with no leading zeros (RFC 5952, sections 4.1 and 4.3)
abbrev pub group_text : ℕ → List ℕ
group_text g = numeral 16 g

-- groups with colons between them; 58 is `:`
abbrev pub groups_text : List ℕ → List ℕ
groups_text [] = []
groups_text (g ∷ []) = group_text g
groups_text (g ∷ h ∷ gs) = group_text g ++ 58 ∷ groups_text (h ∷ gs)

-- `len` zero groups in a row, the first of them at `start`
pub record IsZeroRun (gs : List ℕ) (start len : ℕ) : Type 0 where
  pub inside : start + len ≤ length gs
  pub zeros : take len (drop start gs) ≡ replicate len 0

-- two zero groups or more, of which no longer run is anywhere, and none as long begins before
-- (RFC 5952, section 4.2)
pub record IsFirstLongestRun (gs : List ℕ) (start len : ℕ) : Type 0 where
  pub run : IsZeroRun gs start len
  pub several : 2 ≤ len
  pub longest : (s l : ℕ) → IsZeroRun gs s l → l ≤ len
  pub first : (s : ℕ) → IsZeroRun gs s len → start ≤ s

-- the groups with `::` in the place of a run
abbrev pub shortened_text : List ℕ → ℕ → ℕ → List ℕ
shortened_text gs start len =
    groups_text (take start gs) ++ codes "::" ++ groups_text (drop (start + len) gs)

-- The text is the written form of the groups: `::` takes the place of the first longest run of two or more zero
-- groups, if there is one.
abbrev pub IsWrittenForm : List ℕ → List ℕ → Type 0
IsWrittenForm text gs =
    ((start len : ℕ) × IsFirstLongestRun gs start len × (text ≡ shortened_text gs start len))
    ⊎ (((start len : ℕ) → 2 ≤ len → ¬ IsZeroRun gs start len) × (text ≡ groups_text gs))

-- The written form of an address, as the standard library writes it; `written_form_is_one` says that it is the written
-- form, and that there is no other.
unfoldable pub address_text_of : ℕ → List ℕ
address_text_of ip = hex_groups_text (groups ip)

-- ---- the read form (RFC 4291, section 2.2, forms 1 and 2)

-- one to four hexadecimal digits of either case
abbrev pub IsGroupText : List ℕ → ℕ → Type 0
IsGroupText digits g = IsShortNumeral 16 4 digits g

-- groups with colons between them, or nothing
abbrev pub IsGroups : List ℕ → List ℕ → Type 0
IsGroups text [] = text ≡ []
IsGroups text (g ∷ []) = IsGroupText text g
IsGroups text (g ∷ h ∷ gs) =
    (digits rest : List ℕ) × (text ≡ digits ++ 58 ∷ rest) × IsGroupText digits g × IsGroups rest (h ∷ gs)

-- groups on both sides of `::`, which represents one zero group or more
pub record IsShortened (text gs : List ℕ) : Type 0 where
  pub left_text : List ℕ
  pub right_text : List ℕ
  pub left : List ℕ
  pub right : List ℕ
  pub parts : text ≡ left_text ++ codes "::" ++ right_text
  pub left_groups : IsGroups left_text left
  pub right_groups : IsGroups right_text right
  pub room : length left + length right < 8
  pub value : gs ≡ left ++ replicate (8 - (length left + length right)) 0 ++ right

-- all eight groups, or fewer with `::`
abbrev pub IsGroupsText : List ℕ → List ℕ → Type 0
IsGroupsText text gs = (IsGroups text gs × (length gs ≡ 8)) ⊎ IsShortened text gs

-- the text is a read form of the address
abbrev pub IsAddressText : List ℕ → ℕ → Type 0
IsAddressText text ip = (gs : List ℕ) × IsGroupsText text gs × (address_of_groups gs ≡ ip)
