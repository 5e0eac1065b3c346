-- The type-length-value objects (TLVs) of RFC 7787, section 7, as whole lists of bytes.
use Rattle.std.specs.Prelude.{◌≡◌, ◌≢◌, ℕ, ◌+◌, ◌-◌, ◌%◌, ◌^◌, ◌<◌, ◌≤◌, ◌⊎◌, List, [], ◌∷◌, ◌++◌, length, drop, replicate, All}
use Rattle.std.specs.Int.{w16, to_be_bytes}
use Rattle.hn_base.specs.Byte.{IsByte}

-- a TLV without where it lies in memory
pub record PlainTlv : Type 0 where
  pub kind : ℕ
  pub value : List ℕ

-- a 16-bit type, and a value of at most 65,535 bytes, each below 256
pub record IsTlv (tlv : PlainTlv) : Type 0 where
  pub kind_fits : tlv.kind < 2 ^ 16
  pub length_fits : length tlv.value < 2 ^ 16
  pub bytes : All IsByte tlv.value

-- how many zero bytes bring a value of that length to the next multiple of 4
abbrev pub padding : ℕ → ℕ
padding len = (4 - len % 4) % 4

-- how many bytes a TLV takes whose value has that length: type and length, the value, the padding
abbrev pub tlv_size : ℕ → ℕ
tlv_size len = 4 + len + padding len

-- type and length, 2 bytes each, in network byte order
abbrev pub header : ℕ → ℕ → List ℕ
header kind len = to_be_bytes w16 kind ++ to_be_bytes w16 len

-- a TLV but for its padding, which the length does not count
abbrev pub unpadded : PlainTlv → List ℕ
unpadded tlv = header tlv.kind (length tlv.value) ++ tlv.value

-- the one spelling of a TLV
abbrev pub spelling : PlainTlv → List ℕ
spelling tlv = unpadded tlv ++ replicate (padding (length tlv.value)) 0

-- The grammar: a list of TLVs is their concatenation, and no bytes are the empty list.
abbrev pub IsTlvList : List PlainTlv → List ℕ → Type 0
IsTlvList [] bytes = bytes ≡ []
IsTlvList (tlv ∷ tlvs) bytes = (rest : List ℕ) × IsTlv tlv × (bytes ≡ spelling tlv ++ rest) × IsTlvList tlvs rest

-- some list of TLVs
abbrev pub HasTlvs : List ℕ → Type 0
HasTlvs bytes = (tlvs : List PlainTlv) × IsTlvList tlvs bytes

-- at this place a TLV begins, and after is the place after its padding
pub record IsTlvAt (bytes : List ℕ) (at : ℕ) (tlv : PlainTlv) (after : ℕ) : Type 0 where
  pub valid : IsTlv tlv
  pub spelled : drop at bytes ≡ spelling tlv ++ drop after bytes
  pub ends : after ≡ at + tlv_size (length tlv.value)
  pub within : after ≤ length bytes

-- one to three bytes, too few for a type and a length
pub record IsTlvHeaderCut (bytes : List ℕ) (offset : ℕ) : Type 0 where
  pub not_empty : 0 < length bytes
  pub too_short : length bytes < 4
  pub offset_is : offset ≡ 0

-- a type, a length, and fewer bytes than the length says
pub record IsValueCut (bytes : List ℕ) (offset : ℕ) : Type 0 where
  pub kind : ℕ
  pub len : ℕ
  pub rest : List ℕ
  pub kind_fits : kind < 2 ^ 16
  pub length_fits : len < 2 ^ 16
  pub parts : bytes ≡ header kind len ++ rest
  pub short : length rest < len
  pub offset_is : offset ≡ 0

-- a TLV as far as some of its padding, where the bytes end
pub record IsPaddingCut (bytes : List ℕ) (offset : ℕ) : Type 0 where
  pub tlv : PlainTlv
  pub zeros : ℕ
  pub valid : IsTlv tlv
  pub within_padding : zeros < padding (length tlv.value)
  pub parts : bytes ≡ unpadded tlv ++ replicate zeros 0
  pub offset_is : offset ≡ length (unpadded tlv) + zeros

-- a TLV as far as some of its padding, and then a byte that is not zero
pub record IsPaddingNotZero (bytes : List ℕ) (offset : ℕ) : Type 0 where
  pub tlv : PlainTlv
  pub zeros : ℕ
  pub byte : ℕ
  pub rest : List ℕ
  pub valid : IsTlv tlv
  pub within_padding : zeros < padding (length tlv.value)
  pub parts : bytes ≡ unpadded tlv ++ replicate zeros 0 ++ byte ∷ rest
  pub not_zero : byte ≢ 0
  pub offset_is : offset ≡ length (unpadded tlv) + zeros

-- Why no TLV begins the bytes, and where the fault lies, counted from their beginning:
-- 1, too few bytes; 2, the value passes the end; 3, a pad byte is missing; 4, a pad byte is not zero.
abbrev pub IsFault : List ℕ → ℕ → ℕ → Type 0
IsFault bytes offset why =
    ((why ≡ 1) × IsTlvHeaderCut bytes offset)
    ⊎ (((why ≡ 2) × IsValueCut bytes offset)
    ⊎ (((why ≡ 3) × IsPaddingCut bytes offset)
    ⊎ ((why ≡ 4) × IsPaddingNotZero bytes offset)))

-- the bytes are a list of TLVs and then a rest that no TLV begins, for this reason and at this place
pub record FirstFault (bytes : List ℕ) (place why : ℕ) : Type 0 where
  pub tlvs : List PlainTlv
  pub front : List ℕ
  pub rest : List ℕ
  pub offset : ℕ
  pub before : IsTlvList tlvs front
  pub parts : bytes ≡ front ++ rest
  pub fault : IsFault rest offset why
  pub place_is : place ≡ length front + offset
