-- What the readers of fields and of single kinds answer.
use Rattle.std.specs.Prelude.{ℕ, ◌+◌, List, ◌∷◌, Result, MatchResult}
use Rattle.hn_tlv.specs.Grammar.{PlainTlv}
use Rattle.hn_typed.specs.declared.item.Item.{Item}
use Rattle.hn_typed.specs.Shape.{ValueField, After}
use Rattle.hn_typed.specs.Table.{IsItem}
use Rattle.hn_typed.specs.Fault.{field_size, IsFirstCause, IsItemFault}
use Rattle.hn_typed.specs.View.{plain_item}

-- a cause in the field that bytes begin with is the first, whatever is to follow
abbrev pub IsFirstIn : ValueField → List ℕ → ℕ → Type 0
IsFirstIn field bytes why = (fields : List ValueField) (after : After) (len : ℕ) → IsFirstCause (field ∷ fields) after len bytes why

-- bytes have no fault in such a field, and this rest follows it: the first cause in the rest is the first one
abbrev pub IsPastField : ValueField → List ℕ → List ℕ → Type 0
IsPastField field bytes rest =
    (fields : List ValueField) (after : After) (len why : ℕ) → IsFirstCause fields after (len + field_size field bytes) rest why → IsFirstCause (field ∷ fields) after len bytes why

-- what reading a value of a kind has to answer: the item that it decodes to, or the first cause why it decodes to none
abbrev pub ReadsValue : ℕ → List ℕ → Result Item ℕ → Type 0
ReadsValue kind value result =
    let tlv : PlainTlv = record { kind = kind; value = value } in
    MatchResult result (λ item. IsItem tlv (plain_item item)) (IsItemFault tlv)
