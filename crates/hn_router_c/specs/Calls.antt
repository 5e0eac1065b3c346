-- What a call of C comes to, by its status: 0 done, 1 out of memory, 2 a value is out of range.
use Rattle.std.specs.Prelude.{◌≡◌, ◌≢◌, ◌⊎◌, ℕ, ◌^◌, ◌<◌, ◌≤◌, Bool, ◌||◌, ◌&&◌, ◌==◌, is_some, nat_lt, Option, Some, List, [], ◌++◌, drop, length, slice_get}
use Rattle.std.specs.Option.{option_map_or}
use Rattle.hn_router.specs.Act.{PlainEvent}
use Rattle.hn_base.specs.declared.ids.EpId.{EpId}
use Rattle.hn_base.specs.declared.ids.NodeId.{NodeId}
use Rattle.hn_base.specs.declared.letter.Letter.{Letter}
use Rattle.hn_deleg.specs.declared.delegated.Delegated.{Delegated}
use Rattle.hn_deleg.specs.Used.{AreUsable}
use Rattle.hn_dncp.specs.declared.peers.Neighbour.{Neighbour}
use Rattle.hn_own.specs.Addresses.{OwnAddress}
use Rattle.hn_own.specs.Ports.{is_attached, port_at}
use Rattle.hn_store.specs.declared.stored.HeldNode.{HeldNode}
use Rattle.hn_rules.specs.declared.state.State.{State}
use Rattle.hn_rules.specs.declared.done.Outgoing.{Outgoing}
use Rattle.hn_rules.specs.declared.done.Note as noted
use Rattle.hn_pair.specs.declared.assigned.Assigned as assign
use Rattle.hn_rules.specs.Seen.{seen_by, IsElectedAt}
use Rattle.hn_router.specs.Advertising.{IsAdvertBytes}
use Rattle.hn_advert.specs.Reading.{HasOptions}
use Rattle.std.specs.Int.{w128, from_be_bytes}
use Rattle.hn_base.specs.Prefix.{PlainPrefix, IsPrefix, IsWithin}
use Rattle.hn_departed.specs.declared.departures.Told.{Told}
use Rattle.hn_departed.specs.Departed.{told_at, told_but, with_earlier}
use Rattle.hn_kept.specs.declared.preferred.Preferred.{Preferred}
use Rattle.hn_kept.specs.Preferred.{without_pair, with_preferred}
use Rattle.hn_kept.specs.Kept.{Kept, Acts, IsNextAdvert}
use Rattle.hn_router_c.specs.declared.kinds.Departed.{Departed}
use Rattle.hn_router_c.specs.declared.kinds.Sent.{Sent}
use Rattle.hn_router_c.specs.declared.kinds.Assigned.{Assigned}
use Rattle.hn_router_c.specs.declared.kinds.Note.{Note}
use Rattle.hn_router_c.specs.declared.kinds.Used.{Used}
use Rattle.hn_router_c.specs.declared.kinds.Elected.{Elected}
use Rattle.hn_router_c.specs.declared.kinds.Peer.{Peer}
use Rattle.hn_router_c.specs.declared.kinds.Known.{Known}
use Rattle.hn_router_c.specs.declared.kinds.Address.{Address}
use Rattle.hn_router_c.specs.Kinds.{sent_of, assigned_of, note_of, used_of, elected_of, letter_of, departed_of, peer_out, known_out, address_out}

-- the handle has a router, of which this holds
pub record Has (held : Option Kept) (Holds : Kept → Type 0) : Type 0 where
  pub router : Kept
  pub is : held ≡ Some router
  pub holds : Holds router

-- a moment that no event of a router may have: before that of its last event, or after 2^48
abbrev pub is_outside : ℕ → State → Bool
is_outside now s = nat_lt now s.moment || nat_lt (2 ^ 48) now

-- the handle had this router and has one: with status 0 the event happened to it at the moment, and else it is as it was
pub record Acted (now : ℕ) (event : PlainEvent) (before : Kept) (held_after : Option Kept) (status : ℕ) : Type 0 where
  pub after : Kept
  pub has : held_after ≡ Some after
  pub happened : status ≡ 0 → Acts now event before after
  pub as_before : status ≢ 0 → after ≡ before

-- the same where something else happens to it than an event that C names
pub record Became (Happens : Kept → Kept → Type 0) (before : Kept) (held_after : Option Kept) (status : ℕ) : Type 0 where
  pub after : Kept
  pub has : held_after ≡ Some after
  pub happened : status ≡ 0 → Happens before after
  pub as_before : status ≢ 0 → after ≡ before

-- so many bytes are at the front of a room, and the rest of it is as it was
pub record IsWritten (bytes : List ℕ) (count : ℕ) (room room_after : List ℕ) : Type 0 where
  pub count_is : count ≡ length bytes
  pub written : room_after ≡ bytes ++ drop (length bytes) room

-- so many bytes are more than a room has
pub record ExceedsRoom (bytes : List ℕ) (count : ℕ) (room : List ℕ) : Type 0 where
  pub count_is : count ≡ length bytes
  pub longer : length room < count

-- where the datagram at a place goes, and its bytes
pub record IsSent (sends : List Outgoing) (place : ℕ) (sent : Sent) (count : ℕ) (room room_after : List ℕ) : Type 0 where
  pub outgoing : Outgoing
  pub at : slice_get sends place ≡ Some outgoing
  pub to : sent ≡ sent_of outgoing
  pub bytes : IsWritten outgoing.bytes count room room_after

-- there is no datagram at a place, or no room for the bytes of the one that is
abbrev pub IsUnsent : List Outgoing → ℕ → Sent → ℕ → List ℕ → Type 0
IsUnsent sends place sent count room =
    (length sends ≤ place)
    ⊎ ((outgoing : Outgoing) × (slice_get sends place ≡ Some outgoing) × (sent ≡ sent_of outgoing) × ExceedsRoom outgoing.bytes count room)

-- what was noted at a place
pub record IsNoteAt (notes : List noted.Note) (place : ℕ) (out : Note) : Type 0 where
  pub note : noted.Note
  pub at : slice_get notes place ≡ Some note
  pub is : out ≡ note_of note

-- the assignment at a place
pub record IsAssignedAt (all : List assign.Assigned) (place : ℕ) (out : Assigned) : Type 0 where
  pub assigned : assign.Assigned
  pub at : slice_get all place ≡ Some assigned
  pub is : out ≡ assigned_of assigned

-- the node at a place
pub record IsNodeAt (nodes : List NodeId) (place id : ℕ) : Type 0 where
  pub node : NodeId
  pub at : slice_get nodes place ≡ Some node
  pub is : id ≡ node.0

-- the delegated prefix at a place of those that a router uses
pub record IsUsedAt (s : State) (place : ℕ) (used : Used) : Type 0 where
  pub all : List Delegated
  pub are_usable : AreUsable (seen_by s) all
  pub delegated : Delegated
  pub at : slice_get all place ≡ Some delegated
  pub is : used ≡ used_of delegated

-- a router uses fewer delegated prefixes than that
pub record UsesFewer (s : State) (place : ℕ) : Type 0 where
  pub all : List Delegated
  pub are_usable : AreUsable (seen_by s) all
  pub fewer : length all ≤ place

-- an endpoint has a link: it is attached, or it is 0 and the router has a private link
abbrev pub has_link : State → EpId → Bool
has_link s at = is_attached at s.ports || (at.0 == 0 && is_some s.private)

-- who is elected for a service on an endpoint
pub record IsElectedFor (s : State) (at : EpId) (number : ℕ) (elected : Elected) : Type 0 where
  pub letter : Letter
  pub is_letter : letter_of number ≡ Some letter
  pub who : Option NodeId
  pub is_elected : IsElectedAt s at letter who
  pub is : elected ≡ elected_of who

-- the bytes of the advertisement on an endpoint
pub record IsAdvertisementWritten (s : State) (at : EpId) (count : ℕ) (room room_after : List ℕ) : Type 0 where
  pub bytes : List ℕ
  pub are : IsAdvertBytes s at bytes
  pub written : IsWritten bytes count room room_after

-- there is no room for them
pub record IsUnadvertised (s : State) (at : EpId) (count : ℕ) (room : List ℕ) : Type 0 where
  pub bytes : List ℕ
  pub are : IsAdvertBytes s at bytes
  pub no_room : ExceedsRoom bytes count room

-- the bytes of the advertisement that is to be sent on an endpoint now are written, and what was advertised is kept
pub record Advertises (at : EpId) (before after : Kept) (count : ℕ) (room room_after : List ℕ) : Type 0 where
  pub bytes : List ℕ
  pub told : List (EpId × Told)
  pub is_next : IsNextAdvert before at 0 bytes told
  pub kept : after ≡ record before { told = told }
  pub written : IsWritten bytes count room room_after

-- there is no room for them
pub record HasNoRoomFor (k : Kept) (at : EpId) (count : ℕ) (room : List ℕ) : Type 0 where
  pub bytes : List ℕ
  pub told : List (EpId × Told)
  pub is_next : IsNextAdvert k at 0 bytes told
  pub no_room : ExceedsRoom bytes count room

-- the handle had this router and has one: with status 0 it advertises, with 2 there was no room, and without 0 it is as it was
pub record Advertised (at : EpId) (before : Kept) (held_after : Option Kept) (count : ℕ) (room room_after : List ℕ) (status : ℕ) : Type 0 where
  pub after : Kept
  pub has : held_after ≡ Some after
  pub advertises : status ≡ 0 → Advertises at before after count room room_after
  pub no_room : status ≡ 2 → HasNoRoomFor before at count room
  pub as_before : status ≢ 0 → after ≡ before

-- the own address at a place
pub record IsOwnAddressAt (all : List OwnAddress) (place : ℕ) (out : Address) : Type 0 where
  pub own : OwnAddress
  pub at : slice_get all place ≡ Some own
  pub is : out ≡ address_out own

-- ---- an advertisement with options of the caller's

-- The bytes of the advertisement that is to be sent on an endpoint now beside the caller's options, and after them these options,
-- are written, 1,232 bytes at most; and what was advertised is kept.
pub record AdvertisesWith (at : EpId) (options : List ℕ) (before after : Kept) (count : ℕ) (room room_after : List ℕ) : Type 0 where
  pub are_options : HasOptions options
  pub bytes : List ℕ
  pub told : List (EpId × Told)
  pub is_next : IsNextAdvert before at (length options) bytes told
  pub kept : after ≡ record before { told = told }
  pub written : IsWritten (bytes ++ options) count room room_after
  pub short : count ≤ 1232

-- they are more than 1,232 bytes, or than a room has
pub record HasNoRoomWith (at : EpId) (options : List ℕ) (k : Kept) (count : ℕ) (room : List ℕ) : Type 0 where
  pub are_options : HasOptions options
  pub bytes : List ℕ
  pub told : List (EpId × Told)
  pub is_next : IsNextAdvert k at (length options) bytes told
  pub count_is : count ≡ length (bytes ++ options)
  pub longer : (1232 < count) ⊎ (length room < count)

-- the caller's bytes are no whole options, and nothing is counted; or there is no room
abbrev pub IsRefusedWith : EpId → List ℕ → Kept → ℕ → ℕ → List ℕ → Type 0
IsRefusedWith at options k count_before count room = ((¬ (HasOptions options)) × (count ≡ count_before)) ⊎ HasNoRoomWith at options k count room

-- the handle had this router and has one: with status 0 it advertises, with 2 it refuses, and without 0 it is as it was
pub record AdvertisedWith (at : EpId) (options : List ℕ) (before : Kept) (held_after : Option Kept) (count_before count : ℕ) (room room_after : List ℕ) (status : ℕ) : Type 0 where
  pub after : Kept
  pub has : held_after ≡ Some after
  pub advertises : status ≡ 0 → AdvertisesWith at options before after count room room_after
  pub refused : status ≡ 2 → IsRefusedWith at options before count_before count room
  pub as_before : status ≢ 0 → after ≡ before

-- ---- what is known of the other nodes

-- the peers on the link of an endpoint; one that is not attached has none
abbrev pub peers_on : EpId → State → List Neighbour
peers_on at s = option_map_or (λ port. port.peers) (port_at at s.ports) []

-- the peer at a place
pub record IsPeerOut (peers : List Neighbour) (place : ℕ) (out : Peer) : Type 0 where
  pub peer : Neighbour
  pub at : slice_get peers place ≡ Some peer
  pub is : out ≡ peer_out peer

-- what is known of the node at a place, and its data
pub record IsKnownAt (nodes : List HeldNode) (place : ℕ) (known : Known) (count : ℕ) (room room_after : List ℕ) : Type 0 where
  pub node : HeldNode
  pub at : slice_get nodes place ≡ Some node
  pub is : known ≡ known_out node
  pub data_are : IsWritten node.stored.body count room room_after

-- there is no node at a place, or no room for the data of the one that is
abbrev pub IsNotListed : List HeldNode → ℕ → Known → ℕ → List ℕ → Type 0
IsNotListed nodes place known count room =
    (length nodes ≤ place)
    ⊎ ((node : HeldNode) × (slice_get nodes place ≡ Some node) × (known ≡ known_out node) × ExceedsRoom node.stored.body count room)

-- ---- what is kept over a restart

-- a prefix of C, and the prefix that is preferred for a pair of C
abbrev pub prefix_of : List ℕ → ℕ → PlainPrefix
prefix_of bytes length = record { bits = from_be_bytes w128 bytes; len = length }

abbrev pub preferred_of : ℕ → List ℕ → ℕ → List ℕ → ℕ → Preferred
preferred_of endpoint delegated delegated_length prefix length =
    record { endpoint = record { 0 = endpoint }; delegated = prefix_of delegated delegated_length; prefix = prefix_of prefix length }

-- A prefix may be preferred: both are prefixes, the one inside the other. The delegated one has at least 32 bits and the other at
-- most 64, so that a word of 32 bits names each place.
pub record MayBePreferred (f : Preferred) : Type 0 where
  pub delegated : IsPrefix f.delegated
  pub prefix : IsPrefix f.prefix
  pub inside : IsWithin f.prefix f.delegated
  pub long : 32 ≤ f.delegated.len
  pub short : f.prefix.len ≤ 64

-- 511 other pairs or fewer have a preferred prefix
abbrev pub HasRoomToPrefer : Preferred → Kept → Type 0
HasRoomToPrefer f k = length (without_pair f k.preferred) < 512

-- the handle had this router and has one: with status 0 the prefix is preferred, and else it is as it was
pub record PrefersIn (f : Preferred) (before : Kept) (held_after : Option Kept) (status : ℕ) : Type 0 where
  pub after : Kept
  pub has : held_after ≡ Some after
  pub preferred : status ≡ 0 → MayBePreferred f × HasRoomToPrefer f before × (after ≡ record before { preferred = with_preferred f before.preferred })
  pub refused : status ≡ 2 → MayBePreferred f → ¬ (HasRoomToPrefer f before)
  pub as_before : status ≢ 0 → after ≡ before

-- the prefix at a place of those that were advertised
pub record IsDepartedAt (k : Kept) (place : ℕ) (out : Departed) : Type 0 where
  pub told : EpId × Told
  pub at : slice_get k.told place ≡ Some told
  pub is : out ≡ departed_of k.router.moment told

-- fewer than 64 other prefixes were told on the endpoint
abbrev pub HasRoomToDepart : EpId → PlainPrefix → Kept → Type 0
HasRoomToDepart at prefix k = length (told_at at (told_but at prefix k.told)) < 64

-- the handle had this router and has one: with status 0 the prefix is one that was told in an earlier life, and else it is as it was
pub record DepartsIn (at : EpId) (prefix : PlainPrefix) (valid : ℕ) (before : Kept) (held_after : Option Kept) (status : ℕ) : Type 0 where
  pub after : Kept
  pub has : held_after ≡ Some after
  pub departed : status ≡ 0 → IsPrefix prefix × HasRoomToDepart at prefix before
      × (after ≡ record before { told = with_earlier before.router.moment at prefix valid before.told })
  pub refused : status ≡ 2 → IsPrefix prefix → ¬ (HasRoomToDepart at prefix before)
  pub as_before : status ≢ 0 → after ≡ before
