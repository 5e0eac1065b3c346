-- The TLV that is written for an item: its fields with each reserved bit zero, zeros where sub-TLVs follow, and what
-- stands after.
use Rattle.std.specs.Prelude.{◌≡◌, ℕ, ◌≤◌, List, [], ◌∷◌, ◌++◌, length, replicate}
use Rattle.std.specs.Str.{IsUtf8}
use Rattle.hn_tlv.specs.Grammar.{PlainTlv, HasTlvs, padding, spelling}
use Rattle.hn_typed.specs.Item.{PlainItem, Assigned}
use Rattle.hn_typed.specs.Shape.{After, Subs, Text, Anything, shape, fields_bytes, Fits}
use Rattle.hn_typed.specs.Table.{InRange}
pub use Rattle.hn_typed.specs.Table.{HasOtherKind}

-- the number of an item's kind
abbrev pub kind_of : PlainItem → ℕ
kind_of item = (shape item).kind

-- its fields, with each reserved bit zero
abbrev pub fixed_of : PlainItem → List ℕ
fixed_of item = fields_bytes [] (shape item).fields

-- what follows fields, as it is
abbrev pub bytes_after : After → List ℕ
bytes_after (Subs subs) = subs
bytes_after (Text text) = text
bytes_after (Anything bytes) = bytes

-- the sub-TLVs, a node's data, the user agent, or the value of another kind, as they are
abbrev pub tail_of : PlainItem → List ℕ
tail_of item = bytes_after (shape item).after

-- how many zeros stand before sub-TLVs, after a fixed part of that length: none before no sub-TLVs
abbrev pub zeros_before : ℕ → List ℕ → ℕ
zeros_before len [] = 0
zeros_before len (byte ∷ bytes) = padding len

-- how many zeros stand between fields that take so many bytes and what follows
abbrev pub zeros_after : ℕ → After → ℕ
zeros_after len (Subs subs) = zeros_before len subs
zeros_after len _ = 0

abbrev pub zeros_of : PlainItem → ℕ
zeros_of item = zeros_after (length (fixed_of item)) (shape item).after

-- the value that is written for an item, and the TLV
abbrev pub value_of : PlainItem → List ℕ
value_of item = fixed_of item ++ replicate (zeros_of item) 0 ++ tail_of item

abbrev pub tlv_of : PlainItem → PlainTlv
tlv_of item = record { kind = kind_of item; value = value_of item }

-- sub-TLVs are a list of TLVs
abbrev pub AreTlvs : After → Type 0
AreTlvs (Subs subs) = HasTlvs subs
AreTlvs _ = Unit {0}

-- text is in UTF-8
abbrev pub IsTextAfter : After → Type 0
IsTextAfter (Text text) = IsUtf8 text
IsTextAfter _ = Unit {0}

-- what stands after the fixed fields is as it has to be: sub-TLVs are a list of TLVs
abbrev pub HasTlvsAfter : PlainItem → Type 0
HasTlvsAfter item = AreTlvs (shape item).after

-- a user agent is in UTF-8
abbrev pub HasText : PlainItem → Type 0
HasText item = IsTextAfter (shape item).after

-- the priority of an assigned prefix has 4 bits
abbrev pub HasPriority : PlainItem → Type 0
HasPriority (Assigned endpoint priority prefix subs) = Fits 4 priority
HasPriority _ = Unit {0}

-- the item has a TLV
pub record IsWritable (item : PlainItem) : Type 0 where
  pub in_range : InRange item
  pub text : HasText item
  pub other_kind : HasOtherKind item
  pub tlvs_after : HasTlvsAfter item
  pub short : length (value_of item) ≤ 65535

-- the bytes are the one TLV that is written for an item
pub record IsEncoding (bytes : List ℕ) (item : PlainItem) : Type 0 where
  pub writable : IsWritable item
  pub spelled : bytes ≡ spelling (tlv_of item)
