-- Why a TLV decodes to no item, by the first cause from left to right.
use Rattle.std.specs.Prelude.{◌≢◌, ◌⊎◌, ℕ, ◌+◌, ◌-◌, ◌%◌, ◌^◌, ◌<◌, List, [], ◌∷◌, drop, take, length, slice_index}
use Rattle.std.specs.Int.{w128, from_be_bytes}
use Rattle.std.specs.Str.{IsUtf8}
use Rattle.hn_base.specs.Causes.{OnCause, NoCause}
use Rattle.hn_tlv.specs.Grammar.{PlainTlv}
use Rattle.hn_typed.specs.Fields.{bytes_for, ThenSubs}
use Rattle.hn_typed.specs.Shape.{ValueField, Word, Ipv6, Hash, Prefixed, After, Subs, Text, Anything, shape_of_kind}

-- the length that a prefix field begins with, 0 where it is missing
abbrev pub prefix_len : List ℕ → ℕ
prefix_len bytes = slice_index bytes 0

-- the address of a prefix field: its prefix bytes, and zeros
abbrev pub prefix_bits : List ℕ → ℕ
prefix_bits bytes = from_be_bytes w128 (take (bytes_for (prefix_len bytes)) (drop 1 bytes))

-- how many bytes a field takes at the front of these
abbrev pub field_size : ValueField → List ℕ → ℕ
field_size (Word n) bytes = 4
field_size (Ipv6 address) bytes = 16
field_size (Hash hash) bytes = 8
field_size (Prefixed prefix) bytes = 1 + bytes_for (prefix_len bytes)
field_size _ bytes = 1

-- The first cause in a field at the front of these bytes: a prefix length above 128; bytes are missing; a bit past the
-- prefix length.
abbrev pub IsFieldFault : ValueField → List ℕ → ℕ → Type 0
IsFieldFault (Prefixed prefix) bytes =
    OnCause (128 < prefix_len bytes) 3
    (OnCause (length bytes < field_size (Prefixed prefix) bytes) 1
    (OnCause (prefix_bits bytes % 2 ^ (128 - prefix_len bytes) ≢ 0) 3 NoCause))
IsFieldFault field bytes = OnCause (length bytes < field_size field bytes) 1 NoCause

-- after a fixed part of this length stand no pad of zeros and list of TLVs
abbrev pub LacksSubs : ℕ → List ℕ → Type 0
LacksSubs len after = (subs : List ℕ) → ¬ (ThenSubs len after subs)

-- a cause in what follows the fields, which take so many bytes: no pad of zeros and list of TLVs; a user agent that is
-- not in UTF-8
abbrev pub IsAfterFault : After → ℕ → List ℕ → ℕ → Type 0
IsAfterFault (Subs subs) len bytes = OnCause (LacksSubs len bytes) 2 NoCause
IsAfterFault (Text text) len bytes = OnCause (¬ (IsUtf8 bytes)) 4 NoCause
IsAfterFault (Anything any) len bytes = NoCause

-- the first cause in these bytes, which stand after so many others: in the first field, or else in what follows it
unfoldable pub IsFirstCause : List ValueField → After → ℕ → List ℕ → ℕ → Type 0
IsFirstCause [] after len bytes why = IsAfterFault after len bytes why
IsFirstCause (field ∷ fields) after len bytes why =
    let size = field_size field bytes in
    IsFieldFault field bytes why ⊎ (((other : ℕ) → ¬ (IsFieldFault field bytes other)) × IsFirstCause fields after (len + size) (drop size bytes) why)

abbrev pub IsItemFault : PlainTlv → ℕ → Type 0
IsItemFault tlv why = IsFirstCause (shape_of_kind tlv.kind).fields (shape_of_kind tlv.kind).after 0 tlv.value why
