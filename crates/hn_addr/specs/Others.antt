-- The addresses that other nodes have.
use Rattle.std.specs.Prelude.{◌≡◌, ◌↔◌, ◌==◌, ℕ, ◌<◌, not, List, Contains, map, filter}
use Rattle.std.specs.Ordering.{nat_cmp}
use Rattle.std.specs.List.Sorted.{IsStrictlySortedBy}
use Rattle.hn_base.specs.declared.ids.NodeId.{NodeId}
use Rattle.hn_data.specs.Said.{HasAddress}
use Rattle.hn_data.specs.View.{PlainView}
use Rattle.hn_own.specs.Addresses.{OwnAddress}
use Rattle.hn_addr.specs.OfNodes.{AreOfNodes}
use Rattle.hn_addr.specs.declared.others.Others.{Others}
use Rattle.hn_addr.specs.declared.others.Taken.{Taken}

-- an address that the node says is that one
pub record IsOfAddress (node : NodeId) (said : OwnAddress) (t : Taken) : Type 0 where
  pub node_is : node ≡ t.node
  pub address_is : said.1 ≡ t.address

-- the addresses of nodes with another identifier
abbrev pub addresses_of_others : ℕ → List Taken → List ℕ
addresses_of_others own list = map (λ t. t.address) (filter (λ t. not (t.node.0 == own)) list)

-- these are the addresses of the nodes in a view, each with its node, and those of other nodes alone, in ascending order
pub record AreOthers (view : PlainView) (others : Others) : Type 0 where
  pub taken : AreOfNodes HasAddress IsOfAddress view others.taken.items
  pub ascending : IsStrictlySortedBy nat_cmp others.addresses.items
  pub same : (x : ℕ) → Contains others.addresses.items x ↔ Contains (addresses_of_others view.own others.taken.items) x

-- the list has the address for a node with a greater identifier
pub record HasAddressAbove (list : List Taken) (own : NodeId) (x : ℕ) : Type 0 where
  pub one : Taken
  pub among : Contains list one
  pub address_is : one.address ≡ x
  pub above : own.0 < one.node.0
