-- The items of node data (RFC 7787, section 7.2.3; RFC 7788, section 10).
use Rattle.std.specs.Prelude.{◌≡◌, ℕ, ◌⊎◌, List, [], ◌∷◌, Option, Some, None}
use Rattle.hn_tlv.specs.Grammar.{PlainTlv, IsTlvList}
use Rattle.hn_typed.specs.Item.{PlainItem}
use Rattle.hn_typed.specs.Table.{IsItem}

-- the items of TLVs in their order; a TLV that decodes to no item is left out
abbrev pub IsReading : List PlainTlv → List PlainItem → Type 0
IsReading [] items = items ≡ []
IsReading (tlv ∷ tlvs) items =
    ((item : PlainItem) × (rest : List PlainItem) × IsItem tlv item × (items ≡ item ∷ rest) × IsReading tlvs rest)
    ⊎ (((item : PlainItem) → ¬ (IsItem tlv item)) × IsReading tlvs items)

-- the bytes are a list of TLVs, and these are its items
pub record AreItems (bytes : List ℕ) (items : List PlainItem) : Type 0 where
  pub tlvs : List PlainTlv
  pub list : IsTlvList tlvs bytes
  pub read : IsReading tlvs items

-- the bytes have items, and of these it is so
abbrev pub HasItems : List ℕ → (List PlainItem → Type 0) → Type 0
HasItems bytes P = (items : List PlainItem) × AreItems bytes items × P items

-- the first of a list
abbrev pub first_of : {A : Type 0} → List A → Option A
first_of [] = None
first_of (x ∷ xs) = Some x
