-- The items of RFC 7787, section 7, and RFC 7788, section 10, as contracts see them.
use Rattle.std.specs.Prelude.{ℕ, List}
pub use Rattle.hn_base.specs.Caps.{PlainCaps}
use Rattle.hn_base.specs.Caps.{plain_caps}
use Rattle.hn_base.specs.Prefix.{PlainPrefix}
use Rattle.hn_typed.specs.declared.item.Item.{Item}
use Rattle.hn_typed.specs.declared.item.Item.TheVariants as of

-- An item without where it lies in memory: its fields as numbers, and what follows them as bytes. In each, subs are
-- the bytes of the TLVs within.
pub data PlainItem : Type 0 where
  RequestNetwork : (subs : List ℕ) → PlainItem
  RequestNode : (node : ℕ) (subs : List ℕ) → PlainItem
  NodeEndpoint : (node endpoint : ℕ) (subs : List ℕ) → PlainItem
  NetworkState : (hash subs : List ℕ) → PlainItem
  NodeState : (node number age : ℕ) (hash body : List ℕ) → PlainItem
  Peer : (peer peer_endpoint endpoint : ℕ) (subs : List ℕ) → PlainItem
  KeepAlive : (endpoint interval : ℕ) (subs : List ℕ) → PlainItem
  Version : (caps : PlainCaps) (agent : List ℕ) → PlainItem
  External : (subs : List ℕ) → PlainItem
  Delegated : (valid preferred : ℕ) (prefix : PlainPrefix) (subs : List ℕ) → PlainItem
  Assigned : (endpoint priority : ℕ) (prefix : PlainPrefix) (subs : List ℕ) → PlainItem
  Address : (endpoint address : ℕ) (subs : List ℕ) → PlainItem
  Other : (kind : ℕ) (value : List ℕ) → PlainItem

-- an item of the program
abbrev pub plain_item : Item → PlainItem
plain_item (of.RequestNetwork subs) = RequestNetwork subs.now
plain_item (of.RequestNode node subs) = RequestNode node.0 subs.now
plain_item (of.NodeEndpoint node endpoint subs) = NodeEndpoint node.0 endpoint.0 subs.now
plain_item (of.NetworkState hash subs) = NetworkState hash subs.now
plain_item (of.NodeState node number age hash body) = NodeState node.0 number age hash body.now
plain_item (of.Peer peer peer_endpoint endpoint subs) = Peer peer.0 peer_endpoint.0 endpoint.0 subs.now
plain_item (of.KeepAlive endpoint interval subs) = KeepAlive endpoint.0 interval subs.now
plain_item (of.Version caps agent) = Version (plain_caps caps) agent.now
plain_item (of.External subs) = External subs.now
plain_item (of.Delegated valid preferred prefix subs) = Delegated valid preferred prefix subs.now
plain_item (of.Assigned endpoint priority prefix subs) = Assigned endpoint.0 priority prefix subs.now
plain_item (of.Address endpoint address subs) = Address endpoint.0 address subs.now
plain_item (of.Other kind value) = Other kind value.now
