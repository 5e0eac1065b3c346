-- Laws of a router's posts, own delegated prefixes, own addresses and node data.
use Rattle.std.specs.Prelude.{◌≡◌, ◌↔◌, ◌≤◌, ℕ, Bool, true, false, IsTrue, List, length, filter, Option, All}
use Rattle.std.specs.Ordering.{on, nat_cmp}
use Rattle.std.specs.List.Sorted.{IsStrictlySortedBy}
use Rattle.hn_base.specs.declared.caps.Caps.{Caps}
use Rattle.hn_base.specs.declared.ids.EpId.{EpId}
use Rattle.hn_pair.specs.declared.held.Held.{Held}
use Rattle.hn_dncp.specs.declared.port.Port.{Port}
use Rattle.hn_dncp.specs.Peers.{ArePeers}
use Rattle.hn_own.specs.declared.own.OwnItems.{OwnItems}
use Rattle.hn_own.specs.declared.own_prefixes.OwnPrefix.{OwnPrefix}
use Rattle.hn_own.specs.Addresses.{OwnAddress, AreAddresses, may_address, addresses_without}
use Rattle.hn_own.specs.Due.{IsOwnEnd}
use Rattle.hn_own.specs.HeldPairs.{AreHeldPairs, without_private}
use Rattle.hn_own.specs.Own.{AreFew, PlainData, IsOwnData}
use Rattle.hn_own.specs.OwnPrefixes.{AreOwnPrefixes, may_delegate, delegated_with, delegated_after, has_ended_one}
use Rattle.hn_own.specs.Ports.{ArePorts, is_attached}
use Rattle.hn_own.specs.Posts.{posts_of}
use Rattle.hn_own.specs.Ranges.{AreRanged, IsRangedOwn, items_from}

-- Own items that are published at a moment encode to one node data.
abbrev pub OwnDataIsUnique : Type 0
OwnDataIsUnique = (a b : PlainData) → IsOwnData a → IsOwnData b → a.items ≡ b.items → a.born ≡ b.born → a ≡ b

-- Own items, few enough and with numbers that fit their fields, have node data at each moment.
abbrev pub OwnDataExists : Type 0
OwnDataExists =
    (items : OwnItems) (now : ℕ) → AreFew items → AreRanged items
    → (own : PlainData) × IsOwnData own × (own.items ≡ items) × (own.born ≡ now)

-- The own items of a router are few enough.
abbrev pub OwnItemsAreFew : Type 0
OwnItemsAreFew =
    (caps : Caps) (ports : List Port) (delegated : List OwnPrefix) (held : Held) (addresses : List OwnAddress)
    → ArePorts ports → All (λ port. ArePeers port.peers) ports → AreOwnPrefixes delegated → AreHeldPairs held → AreAddresses addresses
    → AreFew (items_from caps ports delegated held addresses)

-- Where the numbers of what they are made of fit, theirs do.
abbrev pub OwnItemsAreRanged : Type 0
OwnItemsAreRanged =
    (caps : Caps) (ports : List Port) (delegated : List OwnPrefix) (held : Held) (addresses : List OwnAddress)
    → ArePorts ports → IsRangedOwn ports delegated held addresses
    → AreRanged (items_from caps ports delegated held addresses)

-- Own delegated prefixes stay such where one is added that may be.
abbrev pub AddingKeepsOwnPrefixes : Type 0
AddingKeepsOwnPrefixes =
    (own : OwnPrefix) (list : List OwnPrefix) → may_delegate own.prefix list ≡ true → AreOwnPrefixes list
    → AreOwnPrefixes (delegated_with own list)

-- And they do where only some of them stay.
abbrev pub LeavingKeepsOwnPrefixes : Type 0
LeavingKeepsOwnPrefixes =
    (stays : OwnPrefix → Bool) (list : List OwnPrefix) → AreOwnPrefixes list → AreOwnPrefixes (filter stays list)

-- Some valid lifetime has ended if and only if the moment at which one ends has come.
abbrev pub EndingIsAMoment : Type 0
EndingIsAMoment = (now : ℕ) (list : List OwnPrefix) → (has_ended_one now list ≡ true) ↔ ((m : ℕ) × IsOwnEnd list m × (m ≤ now))

-- All prefixes stay if and only if no valid lifetime has ended.
abbrev pub NoneEnds : Type 0
NoneEnds = (now : ℕ) (list : List OwnPrefix) → (delegated_after now list ≡ list) ↔ (has_ended_one now list ≡ false)

-- A router's posts are in strictly ascending order of their numbers: each is there once.
abbrev pub PostsAscend : Type 0
PostsAscend = (private : Option ℕ) (ports : List Port) → ArePorts ports → IsStrictlySortedBy (on (λ (e : EpId). e.0) nat_cmp) (posts_of private ports)

-- There are at most 17.
abbrev pub FewPosts : Type 0
FewPosts = (private : Option ℕ) (ports : List Port) → ArePorts ports → length (posts_of private ports) ≤ 17

-- What a router holds stays such without what it holds for a private link.
abbrev pub HeldStays : Type 0
HeldStays = (held : Held) → AreHeldPairs held → AreHeldPairs (without_private held)

-- Own addresses stay such without those of an endpoint.
abbrev pub AddressesStay : Type 0
AddressesStay = (at : EpId) (list : List OwnAddress) → AreAddresses list → AreAddresses (addresses_without at list)

-- A list that may be the own addresses is such, each of an attached endpoint.
abbrev pub AddressesMayBe : Type 0
AddressesMayBe =
    (list : List OwnAddress) (ports : List Port) → may_address list ports ≡ true
    → AreAddresses list × All (λ a. IsTrue (is_attached a.0 ports)) list
