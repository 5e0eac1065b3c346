-- A Network State TLV (RFC 7787, sections 4.3 and 4.4).
use Rattle.std.specs.Prelude.{ℕ, Bool, false, if◌then◌else◌, List, map, Option, Some, None}
use Rattle.hn_base.specs.declared.ids.NodeId.{NodeId}
use Rattle.hn_base.specs.declared.ids.EpId.{EpId}
use Rattle.hn_timers.specs.Interval.{one_more_heard}
use Rattle.hn_dncp.specs.declared.peers.Neighbour.{Neighbour}
use Rattle.hn_dncp.specs.declared.port.Port.{Port}
use Rattle.hn_dncp.specs.Peers.{is_peer}
use Rattle.hn_dncp.specs.Ask.{may_ask, asked_at}

-- the peers, after the sender was heard, if it was named and is one of them
abbrev pub contacted : Option (NodeId × EpId) → ℕ → List Neighbour → List Neighbour
contacted None now peers = peers
contacted (Some sender) now peers = map (λ peer. if is_peer sender.0 sender.1 peer then record peer { contact = now } else peer) peers

-- The endpoint after a Network State TLV. Where its hash is the local one, it is a consistent message: Trickle counts
-- it, and the sender's contact is renewed. Otherwise the endpoint asks.
abbrev pub hashed : Bool → Option (NodeId × EpId) → ℕ → Port → Port
hashed same sender now port = record port {
  trickle = if same then one_more_heard port.trickle else port.trickle;
  peers = if same then contacted sender now port.peers else port.peers;
  asked = if same then port.asked else asked_at now port.asked;
}

-- whether it asks
abbrev pub asks_for_state : Bool → ℕ → Port → Bool
asks_for_state same now port = if same then false else may_ask now port.asked
