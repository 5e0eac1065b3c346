-- The Common Link of an own endpoint (RFC 7788, section 6.1).
use Rattle.std.specs.Prelude.{◌≡◌, ℕ, ◌⊎◌, ◌↔◌, List, Contains}
use Rattle.std.specs.List.Sorted.{IsStrictlySortedBy}
use Rattle.std.specs.Ordering.{on, then_cmp, nat_cmp}
use Rattle.std.specs.declared.cmp.Ordering.{Ordering}
use Rattle.hn_base.specs.declared.ids.NodeId.{NodeId}
use Rattle.hn_base.specs.declared.ids.EpId.{EpId}
use Rattle.hn_data.specs.Links.{IsPeerAt}
use Rattle.hn_data.specs.Peers.{IsLinked}
use Rattle.hn_data.specs.View.{PlainView}
use Rattle.hn_data.specs.declared.said.PeerLink.{PeerLink}
use Rattle.hn_data.specs.declared.view.Entry.{Entry}

-- endpoint f of the node y, one of those in view, is linked with the own endpoint e
pub record IsLinkedWithOwn (view : PlainView) (e y f : ℕ) : Type 0 where
  pub own : Entry
  pub own_there : Contains view.nodes own
  pub own_is : own.id.0 ≡ view.own
  pub node : Entry
  pub node_there : Contains view.nodes node
  pub node_is : node.id.0 ≡ y
  pub linked : IsLinked own.body view.own e node.body y f

-- the own endpoint e itself
pub record IsOwnEndpoint (view : PlainView) (e y f : ℕ) : Type 0 where
  pub own : y ≡ view.own
  pub endpoint : f ≡ e

-- The Common Link of the own endpoint e has that endpoint itself, and each endpoint that is linked with it.
abbrev pub IsOnCommonLink : PlainView → ℕ → NodeId × EpId → Type 0
IsOnCommonLink view e at = IsOwnEndpoint view e at.0.0 at.1.0 ⊎ IsLinkedWithOwn view e at.0.0 at.1.0

-- endpoints in order: by node, then by endpoint
abbrev pub endpoint_cmp : NodeId × EpId → NodeId × EpId → Ordering
endpoint_cmp = then_cmp (on (λ at. at.0.0) nat_cmp) (on (λ at. at.1.0) nat_cmp)

-- the Common Link in ascending order
pub record IsCommonLink (view : PlainView) (e : ℕ) (common : List (NodeId × EpId)) : Type 0 where
  pub ascending : IsStrictlySortedBy endpoint_cmp common
  pub exact : (at : NodeId × EpId) → Contains common at ↔ IsOnCommonLink view e at

-- what the node says of a peer is said for its endpoint e, and the link is mutual
pub record IsJoined (nodes : List Entry) (node : Entry) (e : ℕ) (link : PeerLink) : Type 0 where
  pub here : link.endpoint.0 ≡ e
  pub place : ℕ
  pub leads : IsPeerAt nodes node link place
