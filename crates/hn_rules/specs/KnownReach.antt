-- What a router knows of the nodes that it reaches, until its links change.
use Rattle.std.specs.Prelude.{◌≡◌, ℕ, ◌-◌, ◌^◌, ◌<◌, is_none, All, List, Some, ◌↔◌}
use Rattle.hn_data.specs.Peers.{HasPeer}
use Rattle.hn_data.specs.declared.said.PeerLink.{PeerLink}
use Rattle.hn_store.specs.Loss.{is_among}
use Rattle.hn_store.specs.Nodes.{held}
use Rattle.hn_store.specs.declared.stored.Stored.{Stored}
use Rattle.hn_rules.specs.declared.state.State.{State}
use Rattle.hn_rules.specs.Nodes.{age_at}
use Rattle.hn_rules.specs.Router.{WasReach}

-- The reachable nodes are those of some moment that is not after the router's, and a held node has a moment of loss if and
-- only if it is not reachable.
pub record KnowsReach (s : State) : Type 0 where
  pub reached : WasReach s
  pub lost : All (λ node. is_among s.reach node.id.0 ≡ is_none node.stored.lost) s.table.entries

-- two node data say the same peers
abbrev pub HaveSamePeers : List ℕ → List ℕ → Type 0
HaveSamePeers a b = (link : PeerLink) → HasPeer a link ↔ HasPeer b link

-- These are the node data of a held node, and they are less than 2^32 - 2^15 ms old.
pub record IsLeading (s : State) (id : ℕ) (bytes : List ℕ) : Type 0 where
  pub stored : Stored
  pub there : held s.table.entries id ≡ Some stored
  pub body_is : stored.body ≡ bytes
  pub recent : age_at s.moment stored < 2 ^ 32 - 2 ^ 15

-- The node data of a held node say the same peers as these, and they are less than 2^32 - 2^15 ms old.
pub record LeadsAs (s : State) (id : ℕ) (bytes : List ℕ) : Type 0 where
  pub stored : Stored
  pub there : held s.table.entries id ≡ Some stored
  pub peers : HaveSamePeers bytes stored.body
  pub recent : age_at s.moment stored < 2 ^ 32 - 2 ^ 15
