-- Settled, quiet and sound, in the shortest words.
use Rattle.std.specs.Prelude.{◌≡◌, ◌≢◌, ◌⊎◌, ◌↔◌, ◌<◌, ◌≤◌, ℕ, List, length, Contains, All, Some, None, IsSome}
use Rattle.std.specs.List.Sorted.{IsStrictlySortedBy}
use Rattle.std.specs.declared.cmp.Ordering.TheVariants.{Less}
use Rattle.hn_base.specs.Key.{IsAbove}
use Rattle.hn_base.specs.Prefix.{PlainPrefix, IsPrefix, IsWithin, Overlaps, prefix_cmp}
use Rattle.hn_base.specs.declared.ids.EpId.{EpId}
use Rattle.hn_base.specs.declared.ids.NodeId.{NodeId}
use Rattle.hn_base.specs.declared.key.Key.{Key}
use Rattle.hn_tlv.specs.Grammar.{PlainTlv, IsTlvList}
use Rattle.hn_typed.specs.Item.{PlainItem}
use Rattle.hn_typed.specs.Item as item
use Rattle.hn_typed.specs.Table.{InRange, Spells}
use Rattle.hn_base.specs.Caps.{PlainCaps}
use Rattle.hn_data.specs.declared.view.Entry.{Entry}
use Rattle.hn_deleg.specs.Live.{remaining}
use Rattle.hn_assign.specs.Advertised.{advertised_cmp, key_of}
use Rattle.hn_assign.specs.declared.advertised.Advertised.{Advertised}
use Rattle.hn_pair.specs.declared.assigned.Assigned.{Assigned}
use Rattle.hn_own.specs.Posts.{posts_of, length_at, private_post}
use Rattle.hn_own.specs.Ports.{endpoints_of}
use Rattle.hn_rules.specs.declared.state.State.{State}
use Rattle.hn_rules.specs.Nodes.{view_of}
use Rattle.hn_world.specs.declared.member.Member.{Member}
use Rattle.hn_world.specs.declared.parts.Parts.{Parts}
use Rattle.hn_audit.specs.Reached.{IsRunning, IsReached, IsOfOne, IsOnLink, AreOnOneLink}
use Rattle.hn_audit.specs.Settled.{HoldsState, IsSameEndpoint}
use Rattle.hn_audit.specs.Sound.{Link, Joint, Private, HasAssignment}

-- ---- what node data say

-- The bytes are TLVs, and one of them decodes to the item. The item is of a kind with a row of the table of items, as Peer or
-- Delegated-Prefix.
abbrev pub SaysItem : List ℕ → PlainItem → Type 0
SaysItem bytes i = (tlvs : List PlainTlv) × (tlv : PlainTlv) × IsTlvList tlvs bytes × Contains tlvs tlv × InRange i × Spells tlv i

-- a Peer: of the endpoint `there` of a peer, met at the endpoint `here`
abbrev pub SaysPeer : List ℕ → ℕ → ℕ → ℕ → Type 0
SaysPeer bytes peer there here = (subs : List ℕ) × SaysItem bytes (item.Peer peer there here subs)

-- an HNCP-Version
abbrev pub SaysVersion : List ℕ → Type 0
SaysVersion bytes = (caps : PlainCaps) × (agent : List ℕ) × SaysItem bytes (item.Version caps agent)

-- an Assigned-Prefix, of the node whose data they are
abbrev pub SaysAssigned : List ℕ → Advertised → Type 0
SaysAssigned bytes a = (subs : List ℕ) × SaysItem bytes (item.Assigned a.key.endpoint.0 a.key.priority a.prefix subs)

-- a Delegated-Prefix in an External-Connection, with its lifetimes
abbrev pub SaysDelegated : List ℕ → ℕ → ℕ → PlainPrefix → Type 0
SaysDelegated bytes valid preferred d =
    (subs : List ℕ) × (more : List ℕ) × SaysItem bytes (item.External subs) × SaysItem subs (item.Delegated valid preferred d more)

-- ---- what a router sees

-- The endpoint e of node x, whose data are a, and the endpoint f of node y, whose data are b, are linked: each node names the
-- other's endpoint as a peer at its own.
abbrev pub AreLinked : List ℕ → ℕ → ℕ → List ℕ → ℕ → ℕ → Type 0
AreLinked a x e b y f = SaysPeer a y f e × SaysPeer b x e f

-- on the Common Link of e: e itself, and each endpoint of a node in view that is linked with it
abbrev pub IsOnCommon : State → EpId → NodeId → EpId → Type 0
IsOnCommon s e y f =
    ((y ≡ s.id) × (f ≡ e))
    ⊎ ((n : Entry) × Contains (view_of s) n × (n.id ≡ y) × AreLinked s.own.body s.id.0 e.0 n.body y.0 f.0)

-- a node in view, with an HNCP-Version, announces the delegated prefix, and its valid lifetime has not ended
pub record SeesAnnounced (s : State) (d : PlainPrefix) (n : Entry) (preferred : ℕ) : Type 0 where
  pub there : Contains (view_of s) n
  pub version : SaysVersion n.body
  pub valid : ℕ
  pub said : SaysDelegated n.body valid preferred d
  pub live : 0 < remaining n.age valid

-- a candidate: announced, and of at most 64 bits
abbrev pub IsCandidate : State → PlainPrefix → Type 0
IsCandidate s d = (d.len ≤ 64) × (n : Entry) × (preferred : ℕ) × SeesAnnounced s d n preferred

-- inside no other candidate
abbrev pub SeesOutermost : State → PlainPrefix → Type 0
SeesOutermost s d = IsCandidate s d × ((q : PlainPrefix) → IsCandidate s q → IsWithin d q → q ≡ d)

-- used: fewer than 32 outermost ones come before it
abbrev pub Uses : State → PlainPrefix → Type 0
Uses s d =
    SeesOutermost s d
    × ((front : List PlainPrefix) → IsStrictlySortedBy prefix_cmp front
    → All (λ q. SeesOutermost s q × (prefix_cmp q d ≡ Less)) front → length front < 32)

-- preferred: the preferred lifetime of some announcement has not ended
abbrev pub Prefers : State → PlainPrefix → Type 0
Prefers s d = (n : Entry) × (preferred : ℕ) × SeesAnnounced s d n preferred × (0 < remaining n.age preferred)

-- used, and not wanted: it is not preferred, and another used one is
abbrev pub DoesNotWant : State → PlainPrefix → Type 0
DoesNotWant s d = Uses s d × ¬ Prefers s d × (other : PlainPrefix) × Uses s other × Prefers s other

-- another node in view, with an HNCP-Version, advertises a prefix, or the router does, for one of its assignments
abbrev pub SeesAdvertised : State → Advertised → Type 0
SeesAdvertised s a =
    ((n : Entry) × Contains (view_of s) n × (n.id ≢ s.id) × (a.key.node ≡ n.id) × SaysVersion n.body × SaysAssigned n.body a)
    ⊎ ((c : Assigned) × Contains s.held.assigned c × (a.key.node ≡ s.id) × (a.key.endpoint ≡ c.endpoint)
    × (c.published ≡ Some a.key.priority) × (a.prefix ≡ c.prefix))

-- ---- prefix assignment at rest

-- a rival of the post e for d: what another node advertises on the link, inside d
abbrev pub IsRival : State → EpId → PlainPrefix → Advertised → Type 0
IsRival s e d a = SeesAdvertised s a × (a.key.node ≢ s.id) × IsOnCommon s e a.key.node a.key.endpoint × IsWithin a.prefix d

-- the best rival: none is greater
abbrev pub IsBestRival : State → EpId → PlainPrefix → Advertised → Type 0
IsBestRival s e d best = IsRival s e d best × ((a : Advertised) → IsRival s e d a → ¬ (advertised_cmp best a ≡ Less))

-- the key of an assignment that the router publishes: it has priority 2
abbrev pub own_key : State → EpId → Key
own_key s e = key_of 2 s.id.0 e.0

-- no prefix that overlaps it is advertised off the link with a key above its own
abbrev pub IsSeenValid : State → Assigned → Type 0
IsSeenValid s c =
    (a : Advertised) → SeesAdvertised s a → ¬ IsOnCommon s c.endpoint a.key.node a.key.endpoint → Overlaps a.prefix c.prefix
    → ¬ IsAbove a.key (own_key s c.endpoint)

-- no room: each prefix of the post's length inside d overlaps an advertised one
abbrev pub SeesNoFree : State → EpId → PlainPrefix → Type 0
SeesNoFree s e d =
    (p : PlainPrefix) → IsPrefix p → p.len ≡ length_at s.private e → IsWithin p d
    → (a : Advertised) × SeesAdvertised s a × Overlaps a.prefix p

-- a post goes without one for d: it has none, and there is no use of one, or no room
abbrev pub GoesWithout : State → EpId → PlainPrefix → Type 0
GoesWithout s e d = ((c : Assigned) → ¬ HasAssignment s e d c) × (DoesNotWant s d ⊎ SeesNoFree s e d)

-- an assignment of the post e for d stays ahead: it is published and valid, with a key above the best rival's, if there is one
abbrev pub StaysAhead : State → EpId → PlainPrefix → Assigned → Type 0
StaysAhead s e d c = IsSome c.published × IsSeenValid s c × ((best : Advertised) → IsBestRival s e d best → IsAbove (own_key s e) best.key)

-- it stays behind: it is not published, and has the best rival's prefix
abbrev pub StaysBehind : State → EpId → PlainPrefix → Assigned → Type 0
StaysBehind s e d c = (c.published ≡ None) × (best : Advertised) × IsBestRival s e d best × (c.prefix ≡ best.prefix)

-- A router's prefix assignment rests: each assignment is for a used prefix and a post. Each such pair has one that stays ahead
-- or behind, or it goes without one and has no rival.
pub record Rests (s : State) : Type 0 where
  pub pairs : (c : Assigned) → Contains s.held.assigned c → Uses s c.delegated × Contains (posts_of s.private s.ports) c.endpoint
  pub each : (e : EpId) (d : PlainPrefix) → Uses s d → Contains (posts_of s.private s.ports) e
      → ((c : Assigned) × HasAssignment s e d c × (StaysAhead s e d c ⊎ StaysBehind s e d c)) ⊎ (GoesWithout s e d × ((a : Advertised) → ¬ IsRival s e d a))

-- ---- settled and quiet

-- a router is settled
pub record IsSettled (w : Parts) (r : Member) : Type 0 where
  -- each identifier that r reaches is that of exactly one running router
  pub known : All (IsOfOne w) r.router.reach
  -- each of the set reaches the same, and holds of each other its sequence number and its node data
  pub same_reach : (s : Member) → IsReached w r s → s.router.reach ≡ r.router.reach
  pub held : (s u : Member) → IsReached w r s → IsReached w r u → s.router.id ≢ u.router.id → HoldsState s.router u.router
  -- all use the same delegated prefixes, and want the same of these
  pub used : (s : Member) (d : PlainPrefix) → IsReached w r s
      → (Uses s.router d ↔ Uses r.router d) × (DoesNotWant s.router d ↔ DoesNotWant r.router d)
  -- who has an endpoint on a link of the set is of the set
  pub no_strangers : (m s : Member) (e f : EpId) → IsRunning w m → IsReached w r s → AreOnOneLink m e s f → IsReached w r m
  -- two endpoints of the set are linked if and only if they are on one link
  pub linked : (s u : Member) (e f : EpId) → IsReached w r s → IsReached w r u → ¬ IsSameEndpoint s.router e u.router f
      → AreLinked s.router.own.body s.router.id.0 e.0 u.router.own.body u.router.id.0 f.0 ↔ AreOnOneLink s e u f

-- a router is quiet: each of its set rests
abbrev pub IsQuiet : Parts → Member → Type 0
IsQuiet w r = (s : Member) → IsReached w r s → Rests s.router

-- ---- sound

-- the post e of a router is on the link: an endpoint on a link of the world, or its private post
abbrev pub HasPost : Link → Member → EpId → Type 0
HasPost (Joint place) s e = Contains (endpoints_of s.router.ports) e × IsOnLink place s e
HasPost (Private n) s e = (s ≡ n) × (e ≡ private_post) × IsSome s.router.private

-- and the router is one of the set
abbrev pub IsThere : Parts → Member → Link → Member → EpId → Type 0
IsThere w r link s e = IsReached w r s × HasPost link s e

-- each post on the link has the same prefix for d, and exactly one of them publishes it
pub record HasOnePrefix (w : Parts) (r : Member) (link : Link) (d : PlainPrefix) : Type 0 where
  pub prefix : PlainPrefix
  pub every : (s : Member) (e : EpId) → IsThere w r link s e → (c : Assigned) × HasAssignment s.router e d c
  pub one_prefix : (s : Member) (e : EpId) (c : Assigned) → IsThere w r link s e → HasAssignment s.router e d c → c.prefix ≡ prefix
  pub publisher : Member
  pub post : EpId
  pub there : IsThere w r link publisher post
  pub publishes : (c : Assigned) → HasAssignment publisher.router post d c → IsSome c.published
  pub no_other : (s : Member) (e : EpId) (c : Assigned) → IsThere w r link s e → HasAssignment s.router e d c → IsSome c.published
      → (s ≡ publisher) × (e ≡ post)

-- a router is sound
pub record IsSound (w : Parts) (r : Member) : Type 0 where
  -- each assignment of the set is for a used prefix, and inside it
  pub inside : (s : Member) (c : Assigned) → IsReached w r s → Contains s.router.held.assigned c
      → Uses r.router c.delegated × IsWithin c.prefix c.delegated
  -- each link has one prefix inside each used one, or each post there goes without
  pub each_link : (link : Link) (t : Member) (f : EpId) (d : PlainPrefix) → IsThere w r link t f → Uses r.router d
      → HasOnePrefix w r link d ⊎ ((s : Member) (e : EpId) → IsThere w r link s e → GoesWithout s.router e d)
  -- prefixes on different links do not overlap
  pub links_apart : (link other : Link) (s u : Member) (b c : Assigned) → IsThere w r link s b.endpoint → IsThere w r other u c.endpoint
      → Contains s.router.held.assigned b → Contains u.router.held.assigned c → link ≢ other → ¬ Overlaps b.prefix c.prefix

-- each running router that is settled and quiet is sound
abbrev pub SettledAreSound : Parts → Type 0
SettledAreSound w = (r : Member) → IsRunning w r → IsSettled w r → IsQuiet w r → IsSound w r
