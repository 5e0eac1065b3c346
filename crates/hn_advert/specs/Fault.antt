-- Why bytes are no Router Advertisement, and the place of the first fault.
use Rattle.std.specs.Prelude.{◌≡◌, ◌≢◌, ℕ, ◌+◌, ◌*◌, ◌<◌, ◌≤◌, ◌⊎◌, List, ◌++◌, length, slice_index}
use Rattle.hn_advert.specs.Layout.{Header, IsHeader, header_bytes, NdOption}
use Rattle.hn_advert.specs.Advert.{AreOptions, options_bytes}

-- ---- in the header

-- fewer than 16 bytes; the place is their end
abbrev pub IsHeaderCut : List ℕ → ℕ → Type 0
IsHeaderCut bytes place = (length bytes < 16) × (place ≡ length bytes)

-- 16 bytes or more, of another type than 134
abbrev pub HasOtherType : List ℕ → ℕ → Type 0
HasOtherType bytes place = (16 ≤ length bytes) × (slice_index bytes 0 ≢ 134) × (place ≡ 0)

-- 16 bytes or more, of type 134 and another code than 0
abbrev pub HasOtherCode : List ℕ → ℕ → Type 0
HasOtherCode bytes place = (16 ≤ length bytes) × (slice_index bytes 0 ≡ 134) × (slice_index bytes 1 ≢ 0) × (place ≡ 1)

-- 1, fewer than 16 bytes; 2, another type; 3, another code
abbrev pub IsHeaderFault : List ℕ → ℕ → ℕ → Type 0
IsHeaderFault bytes place why =
    ((why ≡ 1) × IsHeaderCut bytes place)
    ⊎ (((why ≡ 2) × HasOtherType bytes place)
    ⊎ ((why ≡ 3) × HasOtherCode bytes place))

-- ---- where an option has to begin

-- the length of the option that begins the bytes, in units of 8 bytes
abbrev pub units_of : List ℕ → ℕ
units_of bytes = slice_index bytes 1

-- only one byte is left, or the length is 0, or it passes the end
abbrev pub IsOptionCut : List ℕ → Type 0
IsOptionCut bytes = (0 < length bytes) × ((length bytes < 2) ⊎ ((units_of bytes ≡ 0) ⊎ (length bytes < 8 * units_of bytes)))

-- a whole option of this type begins the bytes
pub record HasWholeOption (bytes : List ℕ) (kind : ℕ) : Type 0 where
  pub two : 2 ≤ length bytes
  pub not_empty : 0 < units_of bytes
  pub within : 8 * units_of bytes ≤ length bytes
  pub of_kind : slice_index bytes 0 ≡ kind

-- a whole option of type 3, with another length than 4
abbrev pub HasOtherSize : List ℕ → Type 0
HasOtherSize bytes = HasWholeOption bytes 3 × (units_of bytes ≢ 4)

-- a whole option of type 3 and length 4, with a prefix length above 128
abbrev pub HasLongPrefix : List ℕ → Type 0
HasLongPrefix bytes = HasWholeOption bytes 3 × (units_of bytes ≡ 4) × (128 < slice_index bytes 2)

-- Why no option begins the bytes, and where the fault lies, counted from their beginning: 4, it has no length or passes
-- the end; 5, it is of type 3 and another size; 6, its prefix length is above 128, at the place of that byte.
abbrev pub IsOptionFault : List ℕ → ℕ → ℕ → Type 0
IsOptionFault bytes offset why =
    ((why ≡ 4) × IsOptionCut bytes × (offset ≡ 0))
    ⊎ (((why ≡ 5) × HasOtherSize bytes × (offset ≡ 0))
    ⊎ ((why ≡ 6) × HasLongPrefix bytes × (offset ≡ 2)))

-- the bytes are options, and then a rest that no option begins
pub record IsFirstOptionFault (bytes : List ℕ) (place why : ℕ) : Type 0 where
  pub options : List NdOption
  pub rest : List ℕ
  pub offset : ℕ
  pub options_fit : AreOptions options
  pub parts : bytes ≡ options_bytes options ++ rest
  pub fault : IsOptionFault rest offset why
  pub place_is : place ≡ length (options_bytes options) + offset

-- ---- in the message

-- a header, and then the first fault of the options
pub record IsFaultAfterHeader (bytes : List ℕ) (place why : ℕ) : Type 0 where
  pub header : Header
  pub rest : List ℕ
  pub offset : ℕ
  pub header_fits : IsHeader header
  pub parts : bytes ≡ header_bytes header ++ rest
  pub fault : IsFirstOptionFault rest offset why
  pub place_is : place ≡ 16 + offset

-- the first fault of the bytes
abbrev pub AdvertFault : List ℕ → ℕ → ℕ → Type 0
AdvertFault bytes place why = IsHeaderFault bytes place why ⊎ IsFaultAfterHeader bytes place why
