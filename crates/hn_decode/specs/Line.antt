-- The line of one TLV.
use Rattle.std.specs.Prelude.{◌≡◌, ℕ, ◌-◌, ◌*◌, ◌<◌, ◌⊎◌, List, [], ◌∷◌, ◌++◌, length, replicate, codes}
use Rattle.std.specs.Fmt.{decimal}
use Rattle.hex.specs.Hex.{encode_lower}
use Rattle.hn_tlv.specs.Grammar.{PlainTlv, HasTlvs}
use Rattle.hn_typed.specs.Item.{PlainItem, NodeState, Version, Other}
use Rattle.hn_typed.specs.Table.{IsItem}
use Rattle.hn_typed.specs.Fault.{IsItemFault}
use Rattle.hn_typed.specs.Written.{tail_of}
use Rattle.hn_decode.specs.ItemText.{item_text, bad_text}

-- what lies within an item: its sub-TLVs (RFC 7787, section 7), or the data of a node (RFC 7787, section 7.2.3)
abbrev pub within : PlainItem → List ℕ
within (Version caps agent) = []
within (Other kind value) = []
within item = tail_of item

-- the item has the data of a node within, which may be no list of TLVs
abbrev pub HoldsNodeData : PlainItem → Type 0
HoldsNodeData (NodeState node number age hash body) = Unit {0}
HoldsNodeData _ = ⊥

-- the name of what lies within
abbrev pub within_name : PlainItem → List ℕ
within_name (NodeState node number age hash body) = codes "body"
within_name _ = codes "subs"

-- bytes under a name, in lower-case hexadecimal; nothing for no bytes
abbrev pub named_bytes : List ℕ → List ℕ → List ℕ
named_bytes name [] = []
named_bytes name (byte ∷ bytes) = codes " " ++ name ++ codes "=" ++ encode_lower (byte ∷ bytes)

-- the last level whose TLVs have lines of their own; that of the TLVs of the datagram itself is 0
abbrev pub deepest : ℕ
deepest = 7

-- the beginning of a TLV's line: two spaces for each level, its place, its type, and the length of its value
abbrev pub line_start : ℕ → ℕ → PlainTlv → List ℕ
line_start level place tlv =
    replicate (2 * level) 32 ++ decimal place ++ codes " " ++ decimal tlv.kind ++ codes " " ++ decimal (length tlv.value) ++ codes " "

-- the line of a TLV with so many levels below its own, of which this is said
abbrev pub line : ℕ → ℕ → PlainTlv → List ℕ → List ℕ
line below place tlv text = line_start (deepest - below) place tlv ++ text ++ codes "\n"

-- what lies within an item is shown as lines below its own if there are levels below, and it is a list of TLVs
abbrev pub HasLines : ℕ → PlainItem → Type 0
HasLines below item = (0 < below) × HasTlvs (within item)

-- the line of an item with lines below it
pub record IsLineAbove (below place : ℕ) (tlv : PlainTlv) (item : PlainItem) (text : List ℕ) : Type 0 where
  pub is_item : IsItem tlv item
  pub has_lines : HasLines below item
  pub text_is : text ≡ line below place tlv (item_text item)

-- the line of an item with none: what lies within stands at its end
pub record IsItemLine (below place : ℕ) (tlv : PlainTlv) (text : List ℕ) : Type 0 where
  pub item : PlainItem
  pub is_item : IsItem tlv item
  pub no_lines : ¬ HasLines below item
  pub text_is : text ≡ line below place tlv (item_text item ++ named_bytes (within_name item) (within item))

-- the line of a TLV that decodes to no item
pub record IsBadLine (below place : ℕ) (tlv : PlainTlv) (text : List ℕ) : Type 0 where
  pub why : ℕ
  pub is_fault : IsItemFault tlv why
  pub text_is : text ≡ line below place tlv (bad_text why tlv.value)

-- the line of a TLV with no lines below it
abbrev pub IsLineAlone : ℕ → ℕ → PlainTlv → List ℕ → Type 0
IsLineAlone below place tlv text = IsItemLine below place tlv text ⊎ IsBadLine below place tlv text
