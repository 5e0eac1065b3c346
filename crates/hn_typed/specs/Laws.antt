-- Laws of the item table.
use Rattle.std.specs.Prelude.{◌≡◌, ◌⊎◌, ◌≤◌, ℕ, length}
use Rattle.hn_tlv.specs.Grammar.{PlainTlv, IsTlv}
use Rattle.hn_typed.specs.Item.{PlainItem}
use Rattle.hn_typed.specs.Table.{IsItem}
use Rattle.hn_typed.specs.Fault.{IsItemFault}
use Rattle.hn_typed.specs.Written.{value_of, tlv_of, IsWritable}

-- A TLV decodes to at most one item.
abbrev pub ItemIsUnique : Type 0
ItemIsUnique = (tlv : PlainTlv) (item other : PlainItem) → IsItem tlv item → IsItem tlv other → item ≡ other

-- A TLV that decodes to an item has no fault.
abbrev pub ItemHasNoFault : Type 0
ItemHasNoFault = (tlv : PlainTlv) (item : PlainItem) (why : ℕ) → IsItem tlv item → ¬ (IsItemFault tlv why)

-- And a TLV has one fault only.
abbrev pub ItemFaultIsUnique : Type 0
ItemFaultIsUnique = (tlv : PlainTlv) (v w : ℕ) → IsItemFault tlv v → IsItemFault tlv w → v ≡ w

-- A TLV decodes to an item, or has a fault.
abbrev pub ItemOrFault : Type 0
ItemOrFault =
    (tlv : PlainTlv) → IsTlv tlv → ((item : PlainItem) × IsItem tlv item) ⊎ ((why : ℕ) × IsItemFault tlv why)

-- What is written is read as that item again.
abbrev pub WrittenIsRead : Type 0
WrittenIsRead = (item : PlainItem) → IsWritable item → IsItem (tlv_of item) item

-- What was read can be written, if its value is not too long.
abbrev pub ReadIsWritable : Type 0
ReadIsWritable = (tlv : PlainTlv) (item : PlainItem) → IsItem tlv item → length (value_of item) ≤ 65535 → IsWritable item
