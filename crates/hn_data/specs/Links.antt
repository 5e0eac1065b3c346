-- Where the peers of a node lead.
use Rattle.std.specs.Prelude.{◌≡◌, ℕ, List, Some, slice_get}
use Rattle.hn_data.specs.Peers.{IsLinked}
use Rattle.hn_data.specs.declared.said.PeerLink.{PeerLink}
use Rattle.hn_data.specs.declared.view.Entry.{Entry}

-- the node at this place is the peer, and the link is mutual
pub record IsPeerAt (nodes : List Entry) (x : Entry) (link : PeerLink) (place : ℕ) : Type 0 where
  pub y : Entry
  pub at : slice_get nodes place ≡ Some y
  pub is_peer : y.id.0 ≡ link.peer.0
  pub linked : IsLinked x.body x.id.0 link.endpoint.0 y.body y.id.0 link.peer_endpoint.0
