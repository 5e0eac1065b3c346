-- The data of the nodes that a router knows.
use Rattle.std.specs.Prelude.{◌≡◌, ℕ, List, [], ◌∷◌, ◌++◌, codes}
use Rattle.hn_base.specs.HexText.{id_text}
use Rattle.hn_base.specs.declared.ids.NodeId.{NodeId}
use Rattle.hn_decode.specs.Nested.{IsDecodeText}
use Rattle.hn_store.specs.declared.stored.HeldNode.{HeldNode}
use Rattle.hn_table.specs.InOrder.{InOrder}

-- the line before the data of a node
abbrev pub data_line : NodeId → List ℕ
data_line node = codes "data " ++ id_text node.0 ++ 10 ∷ []

-- the node data: their TLVs, as `hncp decode` writes them
pub record IsDataText (node : NodeId) (body text : List ℕ) : Type 0 where
  pub tlvs : List ℕ
  pub decoded : IsDecodeText body tlvs
  pub text_is : text ≡ data_line node ++ tlvs

-- the data of each node that is held
abbrev pub AreHeldTexts : List HeldNode → List ℕ → Type 0
AreHeldTexts nodes text = InOrder (λ node. IsDataText node.id node.stored.body) nodes text
