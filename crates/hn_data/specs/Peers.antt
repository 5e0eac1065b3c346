-- Peers as node data say them, and endpoints that are linked (RFC 7787, sections 4.6 and 7.3.1).
use Rattle.std.specs.Prelude.{ℕ, List, Option, Some, None, Contains}
use Rattle.std.specs.declared.cmp.Ordering.{Ordering}
use Rattle.std.specs.Ordering.{on, then_cmp, nat_cmp}
use Rattle.std.specs.List.{filter_map}
use Rattle.hn_typed.specs.Item.{PlainItem, Peer}
use Rattle.hn_data.specs.Items.{HasItems}
use Rattle.hn_data.specs.declared.said.PeerLink.{PeerLink}

-- a peer, its endpoint and the node's own endpoint
abbrev pub peer_link : ℕ → ℕ → ℕ → PeerLink
peer_link peer peer_endpoint endpoint = record { endpoint = record { 0 = endpoint }; peer = record { 0 = peer }; peer_endpoint = record { 0 = peer_endpoint } }

-- what an item says of a peer
abbrev pub peer_of : PlainItem → Option PeerLink
peer_of (Peer peer peer_endpoint endpoint subs) = Some (peer_link peer peer_endpoint endpoint)
peer_of _ = None

-- the node data say that peer
abbrev pub HasPeer : List ℕ → PeerLink → Type 0
HasPeer bytes link = HasItems bytes (λ items. Contains (filter_map peer_of items) link)

-- peers in order: by the node's own endpoint, then the peer, then the peer's endpoint
abbrev pub peer_cmp : PeerLink → PeerLink → Ordering
peer_cmp = then_cmp (on (λ l. l.endpoint.0) nat_cmp) (then_cmp (on (λ l. l.peer.0) nat_cmp) (on (λ l. l.peer_endpoint.0) nat_cmp))

-- Endpoint e of node x, whose data is a, and endpoint f of node y, whose data is b, are linked: each data has a Peer for
-- the other (RFC 7787, section 4.6).
pub record IsLinked (a : List ℕ) (x e : ℕ) (b : List ℕ) (y f : ℕ) : Type 0 where
  pub there : HasPeer a (peer_link y f e)
  pub back : HasPeer b (peer_link x e f)
