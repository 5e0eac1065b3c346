-- What the Node States of a datagram show (RFC 7787, section 7.2.3).
use Rattle.std.specs.Prelude.{◌≡◌, ℕ, ◌⊎◌, List, [], ◌∷◌, ◌++◌, Option, Some, None, option_to_list}
use Rattle.hn_tlv.specs.Grammar.{PlainTlv, IsTlvList}
use Rattle.hn_typed.specs.Item.{PlainItem, NodeState}
use Rattle.hn_typed.specs.Table.{IsItem}
use Rattle.hn_typed.specs.Fault.{IsItemFault}
use Rattle.hn_watch.specs.declared.shown.Shown.{Shown}

-- what an item shows: a Node State its node, its sequence number and the hash of its data
abbrev pub shown_by : PlainItem → Option Shown
shown_by (NodeState node number age hash body) = Some (record { node = record { 0 = node }; number = number; hash = hash })
shown_by _ = None

-- what a TLV shows; one that the item table refuses shows nothing
abbrev pub Shows : PlainTlv → List Shown → Type 0
Shows tlv shown =
    ((item : PlainItem) × IsItem tlv item × (shown ≡ option_to_list (shown_by item)))
    ⊎ ((why : ℕ) × IsItemFault tlv why × (shown ≡ []))

-- what TLVs show in their order; those within them show nothing
abbrev pub AreShownBy : List PlainTlv → List Shown → Type 0
AreShownBy [] shown = shown ≡ []
AreShownBy (tlv ∷ tlvs) shown = (first : List Shown) × (rest : List Shown) × Shows tlv first × AreShownBy tlvs rest × (shown ≡ first ++ rest)

-- what a datagram shows that is a list of TLVs
pub record AreShownIn (datagram : List ℕ) (shown : List Shown) : Type 0 where
  pub tlvs : List PlainTlv
  pub list : IsTlvList tlvs datagram
  pub shown_by : AreShownBy tlvs shown
