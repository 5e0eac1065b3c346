-- Reachability among nodes that say as much of their peers.
use Rattle.std.specs.Prelude.{◌≡◌, ℕ, List, Contains}
use Rattle.hn_data.specs.Peers.{HasPeer}
use Rattle.hn_data.specs.declared.said.PeerLink.{PeerLink}
use Rattle.hn_data.specs.declared.view.Entry.{Entry}
use Rattle.hn_graph.specs.Path.{IsLeadingOn, IsReachable}

-- the other node has the same identifier, says each peer that this one says, and is recent if this one is
pub record SaysAsMuch (node other : Entry) : Type 0 where
  pub id : other.id.0 ≡ node.id.0
  pub peers : (link : PeerLink) → HasPeer node.body link → HasPeer other.body link
  pub recent : IsLeadingOn node → IsLeadingOn other

-- for each node there is one that says as much
abbrev pub SayAsMuch : List Entry → List Entry → Type 0
SayAsMuch before after = (x : Entry) → Contains before x → (y : Entry) × Contains after y × SaysAsMuch x y

-- What is reachable is so among nodes that say as much.
abbrev pub ReachabilityFollows : Type 0
ReachabilityFollows =
    (own : ℕ) (before after : List Entry) → SayAsMuch before after → (id : ℕ) → IsReachable own before id → IsReachable own after id
