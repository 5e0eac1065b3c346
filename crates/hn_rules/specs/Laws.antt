-- Laws of the rules, and of what holds of a router.
use Rattle.std.specs.Prelude.{◌≡◌, ◌↔◌, ℕ, ◌^◌, ◌<◌, ◌≤◌, true, List, [], length, Contains, Some, All}
use Rattle.hn_base.specs.declared.ids.EpId.{EpId}
use Rattle.hn_base.specs.declared.ids.NodeId.{NodeId}
use Rattle.hn_base.specs.Prefix.{PlainPrefix, IsPrefix}
use Rattle.hn_hash.specs.Network.{network_hash, AreNumbered}
use Rattle.hn_tlv.specs.Grammar.{PlainTlv, IsTlv}
use Rattle.hn_typed.specs.Item.{PlainItem}
use Rattle.hn_data.specs.Items.{HasItems}
use Rattle.hn_data.specs.Peers.{HasPeer}
use Rattle.hn_data.specs.Said.{HasAssigned, HasAddress, HasVersion}
use Rattle.hn_data.specs.View.{IsNetwork}
use Rattle.hn_data.specs.declared.said.AssignedPrefix.{AssignedPrefix}
use Rattle.hn_data.specs.declared.said.PeerLink.{PeerLink}
use Rattle.hn_data.specs.declared.view.Entry.{Entry}
use Rattle.hn_deleg.specs.declared.delegated.Delegated.{Delegated}
use Rattle.hn_deleg.specs.Used.{AreUsable, prefixes_of}
use Rattle.hn_link.specs.CommonLink.{IsOnCommonLink}
use Rattle.hn_pair.specs.declared.assigned.Wish.{Wish}
use Rattle.hn_pair.specs.declared.pair.Pair.{Pair}
use Rattle.hn_pair.specs.Facts.{IsFitting}
use Rattle.hn_pair.specs.Pair.{wish_pair}
use Rattle.hn_own.specs.Addresses.{OwnAddress, may_address}
use Rattle.hn_own.specs.HeldPairs.{published_in}
use Rattle.hn_own.specs.Own.{items_of}
use Rattle.hn_own.specs.OwnPrefixes.{may_delegate}
use Rattle.hn_own.specs.Ports.{ArePorts, endpoints_of}
use Rattle.hn_own.specs.Ranges.{IsRangedAddress}
use Rattle.hn_own.specs.Posts.{posts_of, private_post}
use Rattle.hn_store.specs.Nodes.{held}
use Rattle.hn_store.specs.declared.stored.Stored.{Stored}
use Rattle.hn_rules.specs.declared.arrival.passing.Passing.{Passing}
use Rattle.hn_rules.specs.declared.done.Done.{Done}
use Rattle.hn_rules.specs.declared.done.Publication.{Publication}
use Rattle.hn_rules.specs.declared.running.Origin.{Origin}
use Rattle.hn_rules.specs.declared.running.Running.{Running}
use Rattle.hn_rules.specs.declared.state.State.{State}
use Rattle.hn_rules.specs.Arrival.{IsArrival}
use Rattle.hn_rules.specs.Assigning.{AreAsked, IsAssigning}
use Rattle.hn_rules.specs.Changes.{IsOfChanges, EachKeeps}
use Rattle.hn_rules.specs.Delegating.{delegating}
use Rattle.hn_rules.specs.Done.{nothing}
use Rattle.hn_rules.specs.Due.{IsDueAt, IsNextDue, IsUndueUntil}
use Rattle.hn_rules.specs.Events.{IsAttaching, setting_addresses}
use Rattle.hn_rules.specs.Genuine.{TlvsSayPublished, IsGenuineOrCollides}
use Rattle.hn_rules.specs.Given.{IsRangedDelegation}
use Rattle.hn_rules.specs.Grows.{GrowsFrom}
use Rattle.hn_rules.specs.Idle.{IsIdleTick, IsLeft}
use Rattle.hn_rules.specs.Lengths.{AreShort}
use Rattle.hn_rules.specs.Nodes.{held_entry, own_entry, entry_of, leaves_of, view_of, IsReach}
use Rattle.hn_rules.specs.Passing.{after_passing}
use Rattle.hn_rules.specs.Refresh.{IsRefresh}
use Rattle.hn_rules.specs.Router.{IsWell, IsHashed, IsRouter}
use Rattle.hn_rules.specs.Rules.{Rule, IsTotal, begun_at}
use Rattle.hn_rules.specs.Seen.{seen_by}
use Rattle.hn_rules.specs.Spelled.{AreOfBytes}
use Rattle.hn_rules.specs.Undue.{at_moment, IsKeptUndue, IsRouterUndue}
use Rattle.hn_rules.specs.Ticks.{IsTick}

-- ---- what a router is

-- A router's network state hash is that of the leaves of the nodes that it reaches.
abbrev pub HashIsOfLeaves : Type 0
HashIsOfLeaves = (s : State) → IsRouter s → (s.net ≡ network_hash (leaves_of s)) × AreNumbered (leaves_of s)

-- What others see of a router's assignments is what it holds: the Assigned-Prefixes of its node data are those of the
-- assignments that it publishes.
abbrev pub AssignedIsPublished : Type 0
AssignedIsPublished =
    (s : State) (a : AssignedPrefix) → IsRouter s → HasAssigned s.own.body a ↔ Contains (published_in s.held.assigned) a

-- The items of a router's node data are its own items.
abbrev pub ItemsArePublished : Type 0
ItemsArePublished =
    (s : State) → IsRouter s
    → HasItems s.own.body (λ items. (item : PlainItem) → Contains items item ↔ Contains (items_of s.own.born s.own.items) item)

-- A router's node data have an HNCP-Version.
abbrev pub OwnVersionIsSaid : Type 0
OwnVersionIsSaid = (s : State) → IsRouter s → HasVersion s.own.body

-- The Node-Addresses of a router's node data are its own addresses.
abbrev pub OwnAddressesAreSaid : Type 0
OwnAddressesAreSaid = (s : State) (a : OwnAddress) → IsRouter s → HasAddress s.own.body a ↔ Contains s.addresses a

-- The nodes that a router sees are a network with its own node.
abbrev pub ViewIsNetwork : Type 0
ViewIsNetwork = (s : State) → IsRouter s → IsNetwork s.id.0 (view_of s)

-- What a router knows of its own identifier is its own node.
abbrev pub OwnIsKnown : Type 0
OwnIsKnown = (s : State) (id : NodeId) → id.0 ≡ s.id.0 → entry_of s id ≡ Some (own_entry s)

-- What it knows of another identifier that it holds is what it holds of it.
abbrev pub HeldIsKnown : Type 0
HeldIsKnown =
    (s : State) (id : NodeId) (stored : Stored) → ¬ (id.0 ≡ s.id.0) → held s.table.entries id.0 ≡ Some stored
    → entry_of s id ≡ Some (held_entry s.moment (record { id = id; stored = stored }))

-- What it knows of an identifier has that identifier.
abbrev pub KnownIsNamed : Type 0
KnownIsNamed = (s : State) (id : NodeId) (n : Entry) → entry_of s id ≡ Some n → n.id ≡ id

-- what a router knows of an identifier
pub record EntriesAreAsKnown : Type 0 where
  pub own : OwnIsKnown
  pub held : HeldIsKnown
  pub named : KnownIsNamed

-- While time passes and nothing happens, a router stays one.
abbrev pub RouterStaysLater : Type 0
RouterStaysLater = (now : ℕ) (s : State) → IsRouter s → s.moment ≤ now → IsRouter (record s { moment = now })

-- Each own Peer that a router has published is of an attached endpoint.
abbrev pub OwnPeersAreOfEndpoints : Type 0
OwnPeersAreOfEndpoints = (s : State) (link : PeerLink) → IsRouter s → HasPeer s.own.body link → Contains (endpoints_of s.ports) link.endpoint

-- The private post is alone on its Common Link.
abbrev pub PrivatePostIsAlone : Type 0
PrivatePostIsAlone =
    (s : State) (at : NodeId × EpId) → IsRouter s → IsOnCommonLink (seen_by s) 0 at → (at.0 ≡ s.id) × (at.1 ≡ private_post)

-- ---- when something is due

-- The moment at which something is next due is one.
abbrev pub NextDueIsOne : Type 0
NextDueIsOne = (s : State) (m n : ℕ) → IsNextDue s m → IsNextDue s n → m ≡ n

-- It stays the same while time passes before it and nothing happens.
abbrev pub NextDueStays : Type 0
NextDueStays =
    (s : State) (now later due : ℕ) → IsRouter s → s.moment ≤ now → now ≤ later → later < due
    → IsNextDue (at_moment now s) due → IsNextDue (at_moment later s) due

-- While nothing that a router keeps or holds comes to its moment, the same nodes are reachable.
abbrev pub KeptUndueReaches : Type 0
KeptUndueReaches = (s : State) (now : ℕ) → IsRouter s → s.moment ≤ now → IsKeptUndue now s → IsReach (at_moment now s) s.reach

-- Where each part of a tick leaves a router as it is, it does so until something is due.
abbrev pub UndueStays : Type 0
UndueStays =
    (s : State) (now later : ℕ) → IsRouter s → s.moment ≤ now → now ≤ later → IsRouterUndue now s
    → ((m : ℕ) → IsDueAt (at_moment now s) m → now < m → later < m)
    → IsRouterUndue later s

-- Where each part of a tick leaves a router as it is, the tick does nothing.
abbrev pub UndueIsIdle : Type 0
UndueIsIdle = (s : State) (now : ℕ) → IsRouter s → s.moment ≤ now → IsRouterUndue now s → IsIdleTick now s

-- Where a tick does nothing, each part of it left the router as it is.
abbrev pub IdleIsUndue : Type 0
IdleIsUndue = (s : State) (now : ℕ) → IsRouter s → s.moment ≤ now → IsIdleTick now s → IsRouterUndue now s

-- Where nothing came of a tick that ran, and it left these parts as they were, each part of it left the router as it is.
abbrev pub TickOfNothingIsUndue : Type 0
TickOfNothingIsUndue =
    (s : State) (now : ℕ) (after : Running) → IsRouter s → s.moment ≤ now → IsTick (begun_at now s) after → after.done ≡ nothing
    → IsLeft now s after.state → IsRouterUndue now s

-- Where a tick does nothing, so it is until something is due, and what is next due stays.
abbrev pub IdleUntilDue : Type 0
IdleUntilDue =
    (s : State) (later due : ℕ) → IsRouter s → s.moment ≤ later → later < due → IsIdleTick s.moment s → IsNextDue s due
    → IsIdleTick later s × IsNextDue (at_moment later s) due

-- Where a tick does nothing, and nothing is due before a moment, both stay so while time passes before that moment.
abbrev pub IdleWhileUndue : Type 0
IdleWhileUndue =
    (s : State) (later until : ℕ) → IsRouter s → s.moment ≤ later → later < until → IsIdleTick s.moment s → IsUndueUntil until s
    → IsIdleTick later s × IsUndueUntil until (at_moment later s)

-- Both stay so too where an arrival is let pass before that moment: a contact that is renewed expires later than it did.
abbrev pub PassingKeepsUndue : Type 0
PassingKeepsUndue =
    (s : State) (p : Passing) (now until : ℕ) → IsRouter s → IsRouter (after_passing p now s) → s.moment ≤ now → now < until
    → IsIdleTick s.moment s → IsUndueUntil until s
    → IsIdleTick now (after_passing p now s) × IsUndueUntil until (after_passing p now s)

-- ---- what a rule keeps

-- what holds of a router
abbrev pub KeepsRouter : Rule → Type 0
KeepsRouter rule = (before after : Running) → rule before after → IsRouter before.state → IsRouter after.state

-- what holds of a router beside what a refresh makes
abbrev pub KeepsWell : Rule → Type 0
KeepsWell rule = (before after : Running) → rule before after → IsWell before.state → IsWell after.state

-- the moment, and which endpoints are attached
abbrev pub KeepsEndpoints : Rule → Type 0
KeepsEndpoints rule =
    (before after : Running) → rule before after
    → (after.state.moment ≡ before.state.moment) × (endpoints_of after.state.ports ≡ endpoints_of before.state.ports)

-- A refresh makes a router of a state of which the rest holds.
abbrev pub RefreshMakesRouter : Type 0
RefreshMakesRouter = (before after : Running) → IsRefresh before after → IsWell before.state → IsRouter after.state

-- Right after a refresh another changes nothing.
abbrev pub RefreshRests : Type 0
RefreshRests = (before after : Running) → ArePorts before.state.ports → IsRefresh before after → IsRefresh after after

-- A router stays one, but for what a refresh makes, while prefixes are assigned.
abbrev pub AssigningKeeps : Type 0
AssigningKeeps = (before after : Running) → IsAssigning before after → IsRouter before.state → IsWell after.state

-- A delegated prefix that fits may be added where it is there already, or there are fewer than 8.
abbrev pub DelegatingKeeps : Type 0
DelegatingKeeps =
    (prefix : PlainPrefix) (valid preferred : ℕ) (before : Running) → IsRangedDelegation prefix valid preferred
    → may_delegate prefix before.state.delegated ≡ true
    → IsWell before.state → IsWell (delegating prefix valid preferred before).state

-- An endpoint of a number of 4 bytes other than 0 may be attached where there are fewer than 16.
abbrev pub AttachingKeeps : Type 0
AttachingKeeps =
    (at : EpId) (before after : Running) → 0 < at.0 → at.0 < 2 ^ 32 → length before.state.ports < 16 → IsAttaching at before after
    → IsWell before.state → IsWell after.state

-- A list of addresses that fit may be set as the own addresses where it may be such.
abbrev pub AddressingKeeps : Type 0
AddressingKeeps =
    (list : List OwnAddress) (before : Running) → All IsRangedAddress list → may_address list before.state.ports ≡ true
    → IsWell before.state → IsWell (setting_addresses list before).state

-- ---- elementary changes

-- Each run of a rule is a list of elementary changes, which take from a datagram what its TLVs say.
abbrev pub MakesChanges : List PlainTlv → Rule → Type 0
MakesChanges tlvs rule = (before after : Running) → rule before after → IsOfChanges tlvs before after

-- A delegated prefix that fits is added so, where it may be.
abbrev pub DelegatingMakesChanges : Type 0
DelegatingMakesChanges =
    (prefix : PlainPrefix) (valid preferred : ℕ) (before : Running) → IsRangedDelegation prefix valid preferred
    → may_delegate prefix before.state.delegated ≡ true
    → IsOfChanges [] before (delegating prefix valid preferred before)

-- A list of addresses that fit is set as the own addresses so, where it may be such.
abbrev pub AddressingMakesChanges : Type 0
AddressingMakesChanges =
    (list : List OwnAddress) (before : Running) → All IsRangedAddress list → may_address list before.state.ports ≡ true
    → IsOfChanges [] before (setting_addresses list before)

-- Each elementary change keeps what holds of a router beside what a refresh makes.
abbrev pub ChangesKeepWell : Type 0
ChangesKeepWell = (tlvs : List PlainTlv) → EachKeeps tlvs (λ r. IsWell r.state)

-- It keeps how many nodes the table may hold.
abbrev pub ChangesKeepLimit : Type 0
ChangesKeepLimit = (tlvs : List PlainTlv) (limit : ℕ) → EachKeeps tlvs (λ r. r.state.table.limit ≡ limit)

-- It takes back nothing that came of the event before it.
abbrev pub ChangesOnlyAdd : Type 0
ChangesOnlyAdd = (tlvs : List PlainTlv) (done : Done) → EachKeeps tlvs (GrowsFrom done)

-- A router's network state hash is one, and each elementary change keeps that.
abbrev pub RouterIsHashed : Type 0
RouterIsHashed = (s : State) → IsRouter s → IsHashed s

abbrev pub ChangesKeepHashed : Type 0
ChangesKeepHashed = (tlvs : List PlainTlv) → EachKeeps tlvs (λ r. IsHashed r.state)

-- What is answered and sent stays short.
abbrev pub ChangesKeepShort : Type 0
ChangesKeepShort = (tlvs : List PlainTlv) → EachKeeps tlvs (λ r. IsHashed r.state × AreShort r)

-- What is answered and sent stays made of bytes, whatever the TLVs say.
abbrev pub ChangesKeepBytes : Type 0
ChangesKeepBytes = (tlvs : List PlainTlv) → EachKeeps tlvs (λ r. IsHashed r.state × AreOfBytes r)

-- Where the TLVs that arrive say what was published, so does a router with what it holds, answers and sends; or two texts
-- that were published collide.
abbrev pub ChangesKeepGenuine : Type 0
ChangesKeepGenuine =
    (past : List Publication) (tlvs : List PlainTlv) → TlvsSayPublished past tlvs → EachKeeps tlvs (IsGenuineOrCollides past)

-- ---- a rule has a result

-- Over each stream of words a rule has a result: it cannot be that there is none.
abbrev pub HasAResult : Rule → Type 0
HasAResult rule = IsTotal (λ r. IsWell r.state) rule

-- So it is where the TLVs of a datagram arrive.
abbrev pub ArrivalHasAResult : Type 0
ArrivalHasAResult = (from : Origin) (tlvs : List PlainTlv) → All IsTlv tlvs → HasAResult (IsArrival from tlvs)

-- And where a router assigns prefixes.
abbrev pub AssigningHasAResult : Type 0
AssigningHasAResult = IsTotal (λ r. IsRouter r.state) IsAssigning

-- ---- what is asked is there

-- What a router asks for: there is a wish for each pair of a delegated prefix that it uses and a post. Each wish fits.
pub record HasWishes (s : State) (wishes : List Wish) : Type 0 where
  pub usable : List Delegated
  pub are_usable : AreUsable (seen_by s) usable
  pub are_asked : AreAsked s usable wishes
  pub each : (pair : Pair) → Contains (prefixes_of usable) pair.delegated → Contains (posts_of s.private s.ports) pair.endpoint
      → (wish : Wish) × Contains wishes wish × (wish_pair wish ≡ pair)
  pub fitting : All IsFitting wishes
  pub prefixes : All (λ wish. IsPrefix wish.delegated) wishes

-- There is a list of what a router asks for.
abbrev pub WishesExist : Type 0
WishesExist = (s : State) → IsRouter s → (wishes : List Wish) × HasWishes s wishes
