-- A router's own items and the node data that they encode to (RFC 7787, section 7.3; RFC 7788, section 10).
use Rattle.std.specs.Prelude.{◌≡◌, ℕ, ◌<◌, ◌≤◌, List, [], ◌∷◌, ◌++◌, map, codes, length, All}
use Rattle.std.specs.List.{flat_map}
use Rattle.hn_base.specs.Caps.{plain_caps}
use Rattle.hn_base.specs.declared.caps.Caps.{Caps}
use Rattle.hn_tlv.specs.Grammar.{spelling}
use Rattle.hn_hash.specs.Hash.{hash_of}
use Rattle.hn_typed.specs.Item.{PlainItem, Version, Peer, External, Delegated, Assigned, Address}
use Rattle.hn_typed.specs.Written.{tlv_of, IsWritable}
use Rattle.hn_data.specs.OwnData.{IsAscendingSet}
use Rattle.hn_data.specs.declared.said.PeerLink.{PeerLink}
use Rattle.hn_data.specs.declared.said.AssignedPrefix.{AssignedPrefix}
use Rattle.hn_dncp.specs.declared.peers.Neighbour.{Neighbour}
use Rattle.hn_dncp.specs.declared.port.Port.{Port}
use Rattle.hn_own.specs.declared.own.OwnItems.{OwnItems}
use Rattle.hn_own.specs.declared.own_prefixes.OwnPrefix.{OwnPrefix}
use Rattle.hn_own.specs.Addresses.{OwnAddress}
use Rattle.hn_own.specs.Lifetimes.{seconds_left}

-- what a router says of a peer of an endpoint
abbrev pub link_at : Port → Neighbour → PeerLink
link_at port peer = record { endpoint = port.id; peer = peer.node; peer_endpoint = peer.endpoint }

-- what it says of the peers of an endpoint, and of those of all its endpoints
abbrev pub links_at : Port → List PeerLink
links_at port = map (link_at port) port.peers

abbrev pub links_of : List Port → List PeerLink
links_of ports = flat_map links_at ports

-- how many own items there may be, and the priority of assigned prefixes
pub record AreFew (own : OwnItems) : Type 0 where
  pub links : length own.links ≤ 1024
  pub delegated : length own.delegated ≤ 8
  pub assigned : length own.assigned ≤ 544
  pub priority : All (λ a. a.priority ≡ 2) own.assigned
  pub addresses : length own.addresses ≤ 64

-- an HNCP-Version with the user agent `hncp` (RFC 7788, section 10.1)
abbrev pub version_item : Caps → PlainItem
version_item caps = Version (plain_caps caps) (codes "hncp")

-- a Peer
abbrev pub peer_item : PeerLink → PlainItem
peer_item link = Peer link.peer.0 link.peer_endpoint.0 link.endpoint.0 []

-- a Delegated-Prefix, with what is left of its lifetimes at a moment
abbrev pub delegated_item : ℕ → OwnPrefix → PlainItem
delegated_item now own = Delegated (seconds_left now own.valid_until) (seconds_left now own.preferred_until) own.prefix []

-- one External-Connection with a Delegated-Prefix for each own delegated prefix, in ascending order; none without such
abbrev pub external_items : ℕ → List OwnPrefix → List PlainItem
external_items now [] = []
external_items now (p ∷ ps) = External (flat_map (λ own. spelling (tlv_of (delegated_item now own))) (p ∷ ps)) ∷ []

-- an Assigned-Prefix
abbrev pub assigned_item : AssignedPrefix → PlainItem
assigned_item a = Assigned a.endpoint.0 a.priority a.prefix []

-- a Node-Address
abbrev pub address_item : OwnAddress → PlainItem
address_item a = Address a.0.0 a.1 []

-- the items of the standards that the own items are at a moment: one HNCP-Version with the user agent `hncp`, a Peer for
-- each peer of each endpoint, the External-Connection, an Assigned-Prefix for each published assignment, and a
-- Node-Address for each own address
abbrev pub items_of : ℕ → OwnItems → List PlainItem
items_of now own =
    version_item own.caps
    ∷ (map peer_item own.links ++ external_items now own.delegated ++ map assigned_item own.assigned ++ map address_item own.addresses)

-- the encodings of items, each the one TLV that is written for it
abbrev pub encodings : List PlainItem → List (List ℕ)
encodings items = map (λ item. spelling (tlv_of item)) items

-- those of the own items, whose ascending set is the own node data
abbrev pub pieces_of : ℕ → OwnItems → List (List ℕ)
pieces_of now own = encodings (items_of now own)

-- own items with the moment at which they were published, the node data that they encode to, and its hash
pub record PlainData : Type 0 where
  pub items : OwnItems
  pub born : ℕ
  pub body : List ℕ
  pub hash : List ℕ

-- what holds of them: each item can be written, and the node data has less than 36,864 bytes
pub record IsOwnData (own : PlainData) : Type 0 where
  pub writable : All IsWritable (items_of own.born own.items)
  pub encoded : IsAscendingSet (pieces_of own.born own.items) own.body
  pub hashed : own.hash ≡ hash_of own.body
  pub short : length own.body < 36864
