-- What is missing of a peer: that it is linked, and was heard.
use Rattle.std.specs.Prelude.{◌≡◌, ◌≢◌, ◌⊎◌, ℕ, ◌+◌, ◌<◌, ◌≤◌, IsTrue, IfSome, Option, None, Some}
use Rattle.hn_base.specs.declared.ids.EpId.{EpId}
use Rattle.hn_base.specs.declared.name.Name.{Name}
use Rattle.hn_dncp.specs.declared.peers.Neighbour.{Neighbour}
use Rattle.hn_dncp.specs.declared.port.Port.{Port}
use Rattle.hn_audit.specs.First.{IsFirstFound}
use Rattle.hn_audit.specs.Heard.{IsLinkedPeer}
use Rattle.hn_audit.specs.Reached.{AreOnOneLink}
use Rattle.hn_world.specs.declared.member.Member.{Member}
use Rattle.hn_world.specs.declared.parts.Parts.{Parts}
use Rattle.hn_calm.specs.declared.uncalm.PeerAt.{PeerAt}
use Rattle.hn_calm.specs.declared.uncalm.Uncalm.{Uncalm}
use Rattle.hn_calm.specs.declared.uncalm.Uncalm.TheVariants as missing

-- the endpoint p of x is a peer of the endpoint q of y, which is another router, and on one link with it
pub record IsPeerOnLink (x : Member) (p : Port) (y : Member) (q : EpId) (peer : Neighbour) : Type 0 where
  pub node : peer.node ≡ x.router.id
  pub endpoint : peer.endpoint ≡ p.id
  pub other : x.router.id.0 ≢ y.router.id.0
  pub link : AreOnOneLink x p.id y q

-- such an endpoint of x last sent then, and after a moment, if one is asked for
abbrev pub FindsSent : Member → Member → EpId → Neighbour → Option ℕ → Port → Option ℕ → Type 0
FindsSent x y q peer after p None = IsPeerOnLink x p y q peer → IfSome after (λ a. a < p.sent) → ⊥
FindsSent x y q peer after p (Some sent) = IsPeerOnLink x p y q peer × IfSome after (λ a. a < p.sent) × (sent ≡ p.sent)

-- so did one of x, which runs
abbrev pub FindsSentOf : Member → EpId → Neighbour → Option ℕ → Member → Option ℕ → Type 0
FindsSentOf y q peer after x None = IsTrue x.running → IsFirstFound (FindsSent x y q peer after) x.router.ports None
FindsSentOf y q peer after x (Some sent) = IsTrue x.running × IsFirstFound (FindsSent x y q peer after) x.router.ports (Some sent)

-- ---- of a peer

-- how a peer of an endpoint of the router of a name is told
abbrev pub peer_at : Name → EpId → Neighbour → PeerAt
peer_at router e peer = record { router = router; endpoint = e; node = peer.node; peer = peer.endpoint }

-- It is linked, was heard less than 20 s ago, and what it sent last was heard.
pub record IsHeardPeer (w : Parts) (r y : Member) (q : Port) (peer : Neighbour) : Type 0 where
  pub linked : IsLinkedPeer w r y q peer
  pub lately : w.moment < peer.contact + 20000
  pub last : (l : IsLinkedPeer w r y q peer) → l.port.sent ≤ peer.contact

-- it is not linked
pub record IsUnlinked (w : Parts) (r y : Member) (q : Port) (peer : Neighbour) (u : Uncalm) : Type 0 where
  pub is : u ≡ missing.Unlinked (peer_at y.name q.id peer)
  pub unlinked : ¬ IsLinkedPeer w r y q peer

-- it is, and was last heard 20 s ago or more
pub record IsUnheard (w : Parts) (r y : Member) (q : Port) (peer : Neighbour) (u : Uncalm) : Type 0 where
  pub is : u ≡ missing.Unheard (peer_at y.name q.id peer) peer.contact
  pub linked : IsLinkedPeer w r y q peer
  pub long : peer.contact + 20000 ≤ w.moment

-- it was heard less than 20 s ago, and has sent since
pub record IsMissed (w : Parts) (r y : Member) (q : Port) (peer : Neighbour) (u : Uncalm) : Type 0 where
  pub linked : IsLinkedPeer w r y q peer
  pub is : u ≡ missing.Missed (peer_at y.name q.id peer) peer.contact linked.port.sent
  pub lately : w.moment < peer.contact + 20000
  pub since : peer.contact < linked.port.sent

abbrev pub FindsPeer : Parts → Member → Member → Port → Neighbour → Option Uncalm → Type 0
FindsPeer w r y q peer None = IsHeardPeer w r y q peer
FindsPeer w r y q peer (Some u) = IsUnlinked w r y q peer u ⊎ (IsUnheard w r y q peer u ⊎ IsMissed w r y q peer u)

-- the first of the peers of an endpoint, of the endpoints of a running router, and of routers
abbrev pub FindsAtPort : Parts → Member → Member → Port → Option Uncalm → Type 0
FindsAtPort w r y q = IsFirstFound (FindsPeer w r y q) q.peers

abbrev pub FindsAtRouter : Parts → Member → Member → Option Uncalm → Type 0
FindsAtRouter w r y None = IsTrue y.running → IsFirstFound (FindsAtPort w r y) y.router.ports None
FindsAtRouter w r y (Some u) = IsTrue y.running × IsFirstFound (FindsAtPort w r y) y.router.ports (Some u)

abbrev pub FindsMissing : Parts → Member → Option Uncalm → Type 0
FindsMissing w r = IsFirstFound (FindsAtRouter w r) w.members
