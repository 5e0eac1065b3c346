-- Which TLV decodes to which item (RFC 7787, section 7; RFC 7788, section 10).
use Rattle.std.specs.Prelude.{◌≡◌, ◌≢◌, ℕ, List, ◌++◌, map}
use Rattle.std.specs.List.{AllByRecursion}
use Rattle.std.specs.Str.{IsUtf8}
use Rattle.hn_tlv.specs.Grammar.{PlainTlv}
use Rattle.hn_typed.specs.Item.{PlainItem, Other}
use Rattle.hn_typed.specs.Fields.{HasSubs}
use Rattle.hn_typed.specs.Shape.{After, Subs, Text, Anything, shape, samples, AreInFields, fields_bytes}
pub use Rattle.hn_typed.specs.Shape.{Fits}

-- the kinds with a row of their own in the table
abbrev pub table_kinds : List ℕ
table_kinds = map (λ item. (shape item).kind) samples

-- none of them
abbrev pub IsOtherKind : ℕ → Type 0
IsOtherKind kind = AllByRecursion (λ known. kind ≢ known) table_kinds

-- an item of another kind has none of the table's kinds
abbrev pub HasOtherKind : PlainItem → Type 0
HasOtherKind (Other kind value) = IsOtherKind kind
HasOtherKind _ = Unit {0}

-- the value is these fields, and then what follows them
abbrev pub IsValue : List ℕ → After → List ℕ → Type 0
IsValue fields (Subs subs) value = HasSubs fields subs value
IsValue fields (Text text) value = (value ≡ fields ++ text) × IsUtf8 text
IsValue fields (Anything bytes) value = value ≡ fields ++ bytes

-- the TLV is of the item's kind, and its value has the item's shape, with anything in its reserved bits
abbrev pub Spells : PlainTlv → PlainItem → Type 0
Spells tlv item = (tlv.kind ≡ (shape item).kind) × (reserved : List ℕ) × IsValue (fields_bytes reserved (shape item).fields) (shape item).after tlv.value

-- each number fits its field
abbrev pub InRange : PlainItem → Type 0
InRange (Other kind value) = Fits 16 kind
InRange item = AreInFields (shape item).fields

-- the TLV decodes to the item
pub record IsItem (tlv : PlainTlv) (item : PlainItem) : Type 0 where
  pub in_range : InRange item
  pub other_kind : HasOtherKind item
  pub spelled : Spells tlv item
