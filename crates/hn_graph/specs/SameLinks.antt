-- Reachability among nodes that say the same of their peers.
use Rattle.std.specs.Prelude.{◌≡◌, ℕ, List, Contains, ◌↔◌}
use Rattle.hn_data.specs.Peers.{HasPeer}
use Rattle.hn_data.specs.declared.said.PeerLink.{PeerLink}
use Rattle.hn_data.specs.declared.view.Entry.{Entry}
use Rattle.hn_graph.specs.Path.{IsLeadingOn, IsReachable}

-- the other node has the same identifier and says the same peers, and it is recent if this one is
pub record SaysSamePeers (node other : Entry) : Type 0 where
  pub id : other.id.0 ≡ node.id.0
  pub peers : (link : PeerLink) → HasPeer node.body link ↔ HasPeer other.body link
  pub recent : IsLeadingOn node → IsLeadingOn other

-- each reachable node is still there and says the same peers, as recent as it was, and so each node was there
pub record KeepsLinks (own : ℕ) (before after : List Entry) : Type 0 where
  pub kept : (x : Entry) → Contains before x → IsReachable own before x.id.0 → (y : Entry) × Contains after y × SaysSamePeers x y
  pub known : (y : Entry) → Contains after y → (x : Entry) × Contains before x × SaysSamePeers y x

-- Where each reachable node still says the same peers and no node is new, the same nodes are reachable.
abbrev pub SameLinksReach : Type 0
SameLinksReach =
    (own : ℕ) (before after : List Entry) → KeepsLinks own before after
    → (y : ℕ) → IsReachable own before y ↔ IsReachable own after y
