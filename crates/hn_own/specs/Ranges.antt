-- Own items whose numbers fit their fields (RFC 7787, section 7.3.1; RFC 7788, sections 10.2.1, 10.3 and 10.4). The types of
-- the code bound them; a law speaks of all numbers, and there is no TLV for one that does not fit.
use Rattle.std.specs.Prelude.{◌<◌, ◌^◌, List, All}
use Rattle.hn_base.specs.Prefix.{IsPrefix}
use Rattle.hn_base.specs.declared.caps.Caps.{Caps}
use Rattle.hn_pair.specs.declared.assigned.Assigned.{Assigned}
use Rattle.hn_pair.specs.declared.held.Held.{Held}
use Rattle.hn_dncp.specs.declared.peers.Neighbour.{Neighbour}
use Rattle.hn_dncp.specs.declared.port.Port.{Port}
use Rattle.hn_data.specs.declared.said.PeerLink.{PeerLink}
use Rattle.hn_data.specs.declared.said.AssignedPrefix.{AssignedPrefix}
use Rattle.hn_own.specs.declared.own.OwnItems.{OwnItems}
use Rattle.hn_own.specs.declared.own_prefixes.OwnPrefix.{OwnPrefix}
use Rattle.hn_own.specs.Addresses.{OwnAddress}
use Rattle.hn_own.specs.HeldPairs.{published_in}
use Rattle.hn_own.specs.Own.{links_of}

-- of a peer the node, its endpoint, and the own endpoint have 4 bytes
pub record IsRangedLink (link : PeerLink) : Type 0 where
  pub peer : link.peer.0 < 2 ^ 32
  pub peer_endpoint : link.peer_endpoint.0 < 2 ^ 32
  pub endpoint : link.endpoint.0 < 2 ^ 32

-- of an assignment the endpoint has 4 bytes, and its prefix is one
pub record IsRangedAssigned (a : AssignedPrefix) : Type 0 where
  pub endpoint : a.endpoint.0 < 2 ^ 32
  pub prefix : IsPrefix a.prefix

-- of an own address the endpoint has 4 bytes, and the address 16
pub record IsRangedAddress (a : OwnAddress) : Type 0 where
  pub endpoint : a.0.0 < 2 ^ 32
  pub address : a.1 < 2 ^ 128

-- Each own item is so. Other numbers fit without more: a priority is 2 (`AreFew`), seconds that are left are below 2^32, and
-- the type of capabilities keeps them below 16.
pub record AreRanged (own : OwnItems) : Type 0 where
  pub links : All IsRangedLink own.links
  pub delegated : All (λ p. IsPrefix p.prefix) own.delegated
  pub assigned : All IsRangedAssigned own.assigned
  pub addresses : All IsRangedAddress own.addresses

-- ---- what own items are made of

-- of a peer that was heard the node and its endpoint have 4 bytes
pub record IsRangedPeer (peer : Neighbour) : Type 0 where
  pub node : peer.node.0 < 2 ^ 32
  pub endpoint : peer.endpoint.0 < 2 ^ 32

-- of an assignment that is held the endpoint has 4 bytes, and its prefix is one
pub record IsRangedHeld (c : Assigned) : Type 0 where
  pub endpoint : c.endpoint.0 < 2 ^ 32
  pub prefix : IsPrefix c.prefix

-- the numbers of what a router has of its own fit
pub record IsRangedOwn (ports : List Port) (own_prefixes : List OwnPrefix) (held : Held) (own_addresses : List OwnAddress) : Type 0 where
  pub peers : All (λ port. All IsRangedPeer port.peers) ports
  pub delegated : All (λ p. IsPrefix p.prefix) own_prefixes
  pub assigned : All IsRangedHeld held.assigned
  pub addresses : All IsRangedAddress own_addresses

-- the own items of a router that has these
abbrev pub items_from : Caps → List Port → List OwnPrefix → Held → List OwnAddress → OwnItems
items_from caps ports delegated held addresses =
    record { caps = caps; links = links_of ports; delegated = delegated; assigned = published_in held.assigned; addresses = addresses }
