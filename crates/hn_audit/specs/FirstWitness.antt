-- The first witness in the order of the definitions: why a router is not settled, and why it is not quiet. A search that
-- finds nothing of its subject says by this that the definition holds of it.
use Rattle.std.specs.Prelude.{◌≡◌, ◌≢◌, ◌⊎◌, ◌↔◌, ℕ, ◌<◌, IsTrue, List, Option, Some, None, count_by, Contains}
use Rattle.std.specs.List.Sorted.{IsStrictlySortedBy}
use Rattle.hn_base.specs.declared.ids.NodeId.{NodeId}
use Rattle.hn_base.specs.declared.name.Name.{Name}
use Rattle.hn_base.specs.Ascending.{HasAt}
use Rattle.hn_assign.specs.declared.advertised.Advertised.{Advertised}
use Rattle.hn_pair.specs.declared.assigned.Assigned.{Assigned}
use Rattle.hn_pair.specs.declared.assigned.Wish.{Wish}
use Rattle.hn_assign.specs.Best.{IsBestIfAny}
use Rattle.hn_assign.specs.Fixed.{IsWishAtRest}
use Rattle.hn_pair.specs.Pair.{IsWished, assigned_pair, wish_pair}
use Rattle.hn_assign.specs.Rest.{IsAtRest}
use Rattle.hn_data.specs.Peers.{HasPeer, peer_cmp}
use Rattle.hn_data.specs.declared.said.PeerLink.{PeerLink}
use Rattle.hn_store.specs.Nodes.{held}
use Rattle.hn_store.specs.declared.stored.Stored.{Stored}
use Rattle.hn_world.specs.declared.member.Attachment.{Attachment}
use Rattle.hn_world.specs.declared.member.Member.{Member}
use Rattle.hn_world.specs.declared.parts.Parts.{Parts}
use Rattle.hn_audit.specs.declared.witness.Unquiet.{Unquiet}
use Rattle.hn_audit.specs.declared.witness.Unquiet.TheVariants as act
use Rattle.hn_audit.specs.declared.witness.Unsettled.{Unsettled}
use Rattle.hn_audit.specs.declared.witness.Unsettled.TheVariants as cause
use Rattle.hn_audit.specs.First.{IsFirstFound, OrElse}
use Rattle.hn_audit.specs.Reached.{runs_as, IsOfOne, IsOnLink, AreOnOneLink}
use Rattle.hn_audit.specs.Set.{is_in_set, set_of, PlainSpot, spots_in, HasOn}
use Rattle.hn_audit.specs.Settled.{AreLinkedByRules, HoldsState, IsSameEndpoint, UseSame}
use Rattle.hn_audit.specs.Witness.{Outlook}

-- ---- why a router is not settled

-- an identifier is not that of exactly one running router
abbrev pub FindsId : Parts → NodeId → Option Unsettled → Type 0
FindsId w id None = IsOfOne w id
FindsId w id (Some u) =
    ((u ≡ cause.Unknown id) × (count_by (runs_as id) w.members ≡ 0))
    ⊎ ((u ≡ cause.Shared id) × (1 < count_by (runs_as id) w.members))

-- a router reaches others than these
abbrev pub FindsReach : List NodeId → Member → Option Unsettled → Type 0
FindsReach reach s None = s.router.reach ≡ reach
FindsReach reach s (Some u) = (u ≡ cause.OtherReach s.name) × (s.router.reach ≢ reach)

-- what is wrong with what s holds of o
abbrev pub unheld_of : Member → Member → Option Stored → Unsettled
unheld_of s o None = cause.NotHeld s.name o.router.id
unheld_of s o (Some stored) = cause.OldData s.name o.router.id stored.number o.router.number

-- s does not hold o, which has another identifier, as it is
pub record IsUnheld (s o : Member) (u : Unsettled) : Type 0 where
  pub is : u ≡ unheld_of s o (held s.router.table.entries o.router.id.0)
  pub another : s.router.id ≢ o.router.id
  pub unheld : ¬ HoldsState s.router o.router

abbrev pub FindsHeld : Member → Member → Option Unsettled → Type 0
FindsHeld s o None = s.router.id ≢ o.router.id → HoldsState s.router o.router
FindsHeld s o (Some u) = IsUnheld s o u

-- s and o use or want other delegated prefixes
abbrev pub FindsUsed : Member → Member → Option Unsettled → Type 0
FindsUsed s o None = UseSame s.router o.router
FindsUsed s o (Some u) = (u ≡ cause.OtherPrefixes s.name o.name) × ¬ UseSame s.router o.router

-- an attachment of a router is to a link of these attached endpoints
abbrev pub FindsNear : List PlainSpot → Member → Attachment → Option Unsettled → Type 0
FindsNear spots m a None = ¬ ((link : ℕ) × IsOnLink link m a.endpoint × HasOn spots link)
FindsNear spots m a (Some u) =
    (link : ℕ) × IsOnLink link m a.endpoint × HasOn spots link × (u ≡ cause.Stranger m.name a.endpoint link)

-- a router runs, and has none of these identifiers
abbrev pub RunsOutside : List NodeId → Member → Type 0
RunsOutside reach m = IsTrue m.running × ¬ IsTrue (is_in_set reach m)

-- one that does is on a link of these attached endpoints
abbrev pub FindsStranger : List NodeId → List PlainSpot → Member → Option Unsettled → Type 0
FindsStranger reach spots m None = RunsOutside reach m → IsFirstFound (FindsNear spots m) m.attachments None
FindsStranger reach spots m (Some u) = RunsOutside reach m × IsFirstFound (FindsNear spots m) m.attachments (Some u)

-- attached endpoints are on one link, they are two, and they are not linked
pub record IsUnseenPair (a b : PlainSpot) : Type 0 where
  pub on_one_link : a.link ≡ b.link
  pub apart : ¬ IsSameEndpoint a.member.router a.endpoint b.member.router b.endpoint
  pub unlinked : ¬ AreLinkedByRules a.member.router a.endpoint b.member.router b.endpoint

-- attached endpoints on one link, if they are two, are linked
abbrev pub IsSeenPair : PlainSpot → PlainSpot → Type 0
IsSeenPair a b =
    a.link ≡ b.link → ¬ IsSameEndpoint a.member.router a.endpoint b.member.router b.endpoint
    → AreLinkedByRules a.member.router a.endpoint b.member.router b.endpoint

abbrev pub FindsUnseen : PlainSpot → PlainSpot → Option Unsettled → Type 0
FindsUnseen a b None = IsSeenPair a b
FindsUnseen a b (Some u) = (u ≡ cause.NotLinked a.member.name a.endpoint b.member.name b.endpoint) × IsUnseenPair a b

-- a peer of s is an endpoint of o, and another than that of s; they are linked, and not on one link
pub record IsUntrueOf (s : Member) (peer : PeerLink) (o : Member) : Type 0 where
  pub of_other : peer.peer ≡ o.router.id
  pub apart : ¬ IsSameEndpoint s.router peer.endpoint o.router peer.peer_endpoint
  pub linked : AreLinkedByRules s.router peer.endpoint o.router peer.peer_endpoint
  pub on_no_link : ¬ AreOnOneLink s peer.endpoint o peer.peer_endpoint

-- if a peer of s is an endpoint of o, and another than that of s, and they are linked, then they are on one link
abbrev pub IsTrueOf : Member → PeerLink → Member → Type 0
IsTrueOf s peer o =
    peer.peer ≡ o.router.id → ¬ IsSameEndpoint s.router peer.endpoint o.router peer.peer_endpoint
    → AreLinkedByRules s.router peer.endpoint o.router peer.peer_endpoint
    → AreOnOneLink s peer.endpoint o peer.peer_endpoint

abbrev pub FindsUntrue : Member → PeerLink → Member → Option Unsettled → Type 0
FindsUntrue s peer o None = IsTrueOf s peer o
FindsUntrue s peer o (Some u) = (u ≡ cause.NotOnOneLink s.name peer.endpoint o.name peer.peer_endpoint) × IsUntrueOf s peer o

-- the peers that node data say, in ascending order
pub record AreSaid (body : List ℕ) (peers : List PeerLink) : Type 0 where
  pub ascending : IsStrictlySortedBy peer_cmp peers
  pub exact : (peer : PeerLink) → Contains peers peer ↔ HasPeer body peer

-- the first peer that a router says of which that is so, and the first of the set for it
pub record FindsOfPeers (set : List Member) (s : Member) (u : Option Unsettled) : Type 0 where
  pub peers : List PeerLink
  pub are_said : AreSaid s.router.own.body peers
  pub found : IsFirstFound (λ peer. IsFirstFound (FindsUntrue s peer) set) peers u

-- of the identifiers that r reaches
abbrev pub FindsKnown : Parts → List NodeId → Option Unsettled → Type 0
FindsKnown w reach = IsFirstFound (FindsId w) reach

-- of a set: whom they reach, whom they hold, what they use; of each two, the first by the one and then by the other
abbrev pub FindsAlike : List NodeId → List Member → Option Unsettled → Type 0
FindsAlike reach set =
    OrElse (IsFirstFound (FindsReach reach) set)
    (OrElse (IsFirstFound (λ s. IsFirstFound (FindsHeld s) set) set) (IsFirstFound (λ s. IsFirstFound (FindsUsed s) set) set))

-- who else is on the links of a set, and whether its endpoints are linked where they are on one link
abbrev pub FindsOnLinks : List Member → List NodeId → List Member → List PlainSpot → Option Unsettled → Type 0
FindsOnLinks members reach set spots =
    OrElse (IsFirstFound (FindsStranger reach spots) members)
    (OrElse (IsFirstFound (λ a. IsFirstFound (FindsUnseen a) spots) spots) (IsFirstFound (FindsOfPeers set) set))

-- the first witness by which r is not settled; none, if it is
abbrev pub IsFirstUnsettled : Parts → Member → Option Unsettled → Type 0
IsFirstUnsettled w r =
    OrElse (FindsKnown w r.router.reach)
    (OrElse (FindsAlike r.router.reach (set_of w r)) (FindsOnLinks w.members r.router.reach (set_of w r) (spots_in (set_of w r))))

-- ---- why a router is not quiet

-- an assignment is for a pair without a wish
abbrev pub FindsUnasked : Name → List Wish → Assigned → Option Unquiet → Type 0
FindsUnasked name wishes c None = IsWished wishes (assigned_pair c)
FindsUnasked name wishes c (Some u) =
    (u ≡ act.Unasked name c.endpoint c.delegated c.prefix) × ¬ IsWished wishes (assigned_pair c)

-- what is done at a pair that is not at rest, with its assignment and the best prefix
abbrev pub act_of : Name → Wish → Option Assigned → Option Advertised → Unquiet
act_of name wish None None = act.Makes name wish.endpoint wish.delegated
act_of name wish None (Some best) = act.Takes name wish.endpoint wish.delegated best.prefix
act_of name wish (Some c) None = act.Drops name wish.endpoint wish.delegated c.prefix
act_of name wish (Some c) (Some best) = act.Changes name wish.endpoint wish.delegated c.prefix best.prefix

-- a wished pair is not at rest
pub record IsNotAtRest (name : Name) (advertised : List Advertised) (own : ℕ) (assigned : List Assigned) (wish : Wish) (u : Unquiet) : Type 0 where
  pub assignment : Option Assigned
  pub has : HasAt assigned_pair (wish_pair wish) assignment assigned
  pub best : Option Advertised
  pub is_best : IsBestIfAny advertised own wish.common wish.delegated best
  pub not_at_rest : ¬ IsAtRest advertised own wish assignment
  pub is : u ≡ act_of name wish assignment best

abbrev pub FindsNotAtRest : Name → List Advertised → ℕ → List Assigned → Wish → Option Unquiet → Type 0
FindsNotAtRest name advertised own assigned wish None = IsWishAtRest advertised own assigned wish
FindsNotAtRest name advertised own assigned wish (Some u) = IsNotAtRest name advertised own assigned wish u

-- of a router: the first assignment for a pair that it does not ask for, or else the first pair that is not at rest
abbrev pub FindsAct : Name → List Advertised → ℕ → List Assigned → List Wish → Option Unquiet → Type 0
FindsAct name advertised own assigned wishes =
    OrElse (IsFirstFound (FindsUnasked name wishes) assigned) (IsFirstFound (FindsNotAtRest name advertised own assigned) wishes)

pub record FindsOfRouter (s : Member) (u : Option Unquiet) : Type 0 where
  pub outlook : Outlook s.router
  pub found : FindsAct s.name outlook.advertised s.router.id.0 s.router.held.assigned outlook.wishes u

-- the first witness by which r is not quiet; none, if it is
abbrev pub IsFirstUnquiet : Parts → Member → Option Unquiet → Type 0
IsFirstUnquiet w r = IsFirstFound FindsOfRouter (set_of w r)
