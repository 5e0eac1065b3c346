-- Which endpoints of two routers are peers of each other on one link.
use Rattle.std.specs.Prelude.{◌≡◌, ◌<◌, ◌≤◌, ◌⊎◌, ℕ, Bool, false, ◌&&◌, IsTrue, is_some, find, Option, Some, option_and_then}
use Rattle.std.specs.Option.{option_map, option_map_or}
use Rattle.hn_base.specs.declared.ids.NodeId.{NodeId}
use Rattle.hn_base.specs.declared.ids.EpId.{EpId}
use Rattle.hn_dncp.specs.declared.port.Port.{Port}
use Rattle.hn_dncp.specs.Peers.{has_peer}
use Rattle.hn_own.specs.Ports.{port_at}
use Rattle.hn_rules.specs.declared.state.State.{State}
use Rattle.hn_world.specs.declared.member.Member.{Member}
use Rattle.hn_world.specs.Names.{link_of, is_on}

-- endpoint e of a router has that endpoint of a node as a peer
pub record HasPeerAt (s : State) (e : EpId) (node : NodeId) (f : EpId) : Type 0 where
  pub port : Port
  pub is_port : port_at e s.ports ≡ Some port
  pub peer : IsTrue (has_peer node f port.peers)

-- two routers are peers of each other by these endpoints, which are attached to one link
pub record AreJoined (a : Member) (e : EpId) (b : Member) (f : EpId) : Type 0 where
  pub link : ℕ
  pub here : link_of e a ≡ Some link
  pub there : link_of f b ≡ Some link
  pub of_one : HasPeerAt a.router e b.router.id f
  pub of_other : HasPeerAt b.router f a.router.id e

-- by the least endpoint of a, and by the least one of b for it
pub record AreLeast (a : Member) (e : EpId) (b : Member) (f : EpId) : Type 0 where
  pub joined : AreJoined a e b f
  pub least : (x y : EpId) → AreJoined a x b y → (e.0 < x.0) ⊎ ((e.0 ≡ x.0) × (f.0 ≤ y.0))

-- ---- the same, computed

-- whether it has the peer
abbrev pub has_peer_at : State → EpId → NodeId → EpId → Bool
has_peer_at s e node f = option_map_or (λ port. has_peer node f port.peers) (port_at e s.ports) false

-- whether the endpoints are attached to one link
abbrev pub are_on_one_link : Member → EpId → Member → EpId → Bool
are_on_one_link a e b f = option_map_or (λ link. is_on link b f) (link_of e a) false

-- whether they are joined
abbrev pub are_joined : Member → EpId → Member → EpId → Bool
are_joined a e b f = are_on_one_link a e b f && has_peer_at a.router e b.router.id f && has_peer_at b.router f a.router.id e

-- the first of the endpoints, which ascend, that passes
abbrev pub first_endpoint : (EpId → Bool) → Member → Option EpId
first_endpoint test m = option_map (λ port. port.id) (find (λ port. test port.id) m.router.ports)

-- the least endpoint of b with which this one of a is joined
abbrev pub partner_of : Member → EpId → Member → Option EpId
partner_of a e b = first_endpoint (are_joined a e b) b

-- the least endpoints by which they are joined, where there are any
abbrev pub joint_of : Member → Member → Option (EpId × EpId)
joint_of a b =
    option_and_then (λ e. option_map (λ f. (e, f)) (partner_of a e b)) (first_endpoint (λ e. is_some (partner_of a e b)) a)
