-- What node data keep beside their bytes, read from these.
use Rattle.std.specs.Prelude.{◌≡◌, ℕ, IsTrue, ◌↔◌, List, Contains}
use Rattle.std.specs.Option.{option_map}
use Rattle.std.specs.List.{filter_map}
use Rattle.std.specs.List.Sorted.{IsStrictlySortedBy}
use Rattle.hn_tlv.specs.Grammar.{PlainTlv}
use Rattle.hn_typed.specs.Item.{PlainItem}
use Rattle.hn_typed.specs.View.{plain_caps}
use Rattle.hn_data.specs.Items.{IsReading, AreItems}
use Rattle.hn_data.specs.Peers.{peer_of, peer_cmp}
use Rattle.hn_data.specs.Said.{version_of, interval_of, assigned_prefix_of, node_address_of}
use Rattle.hn_data.specs.Delegations.{external_of, IsDelegatedIn, IsConnected, AreInsideInOrder}
use Rattle.hn_data.specs.declared.said.PeerLink.{PeerLink}
use Rattle.hn_data.specs.declared.said.Delegation.{Delegation}
use Rattle.hn_data.specs.declared.kept.Kept.{Kept}

-- each is what the items say
pub record AreKept (items : List PlainItem) (kept : Kept) : Type 0 where
  pub version_is : option_map plain_caps kept.version ≡ version_of items
  pub external_is : IsTrue kept.external ↔ IsConnected items
  pub peers_are : (link : PeerLink) → Contains kept.peers.items link ↔ Contains (filter_map peer_of items) link
  pub intervals_are : kept.intervals.items ≡ filter_map interval_of items
  pub delegations_are : (d : Delegation) → Contains kept.delegations.items d ↔ IsDelegatedIn items d
  pub delegations_in_order : AreInsideInOrder (filter_map external_of items) kept.delegations.items
  pub assigned_are : kept.assigned.items ≡ filter_map assigned_prefix_of items
  pub addresses_are : kept.addresses.items ≡ filter_map node_address_of items

-- the same of the items of TLVs
abbrev pub AreKeptOf : List PlainTlv → Kept → Type 0
AreKeptOf tlvs kept = (items : List PlainItem) × IsReading tlvs items × AreKept items kept

-- the same of the items of bytes, with the peers in ascending order, each once
pub record IsKeptBeside (bytes : List ℕ) (kept : Kept) : Type 0 where
  pub items : List PlainItem
  pub are : AreItems bytes items
  pub says : AreKept items kept
  pub peers_ascend : IsStrictlySortedBy peer_cmp kept.peers.items
