-- Laws of packing, of the peers of an endpoint, and of what is due there.
use Rattle.std.specs.Prelude.{◌≡◌, ◌↔◌, ℕ, ◌<◌, ◌≤◌, List, Option, length, map, All}
use Rattle.hn_base.specs.declared.ids.NodeId.{NodeId}
use Rattle.hn_base.specs.declared.ids.EpId.{EpId}
use Rattle.hn_tlv.specs.Grammar.{PlainTlv, IsTlv, spelling}
use Rattle.hn_dncp.specs.declared.peers.Neighbour.{Neighbour}
use Rattle.hn_dncp.specs.declared.port.Port.{Port}
use Rattle.hn_dncp.specs.Peers.{ArePeers}
use Rattle.hn_dncp.specs.Greet.{peers_heard}
use Rattle.hn_dncp.specs.Hash.{contacted}
use Rattle.hn_dncp.specs.Packing.{IsPacking, IsShortDatagram, AreRead}
use Rattle.hn_dncp.specs.Due.{IsPortDue, IsPortUndue, IsIdleAt}

-- There is at most one packing of a list of TLVs.
abbrev pub PackingIsUnique : Type 0
PackingIsUnique =
    (own : NodeId) (endpoint : EpId) (tlvs a b : List (List ℕ))
    → IsPacking own endpoint tlvs a → IsPacking own endpoint tlvs b → a ≡ b

-- There is a packing of each list of TLVs.
abbrev pub PackingExists : Type 0
PackingExists = (own : NodeId) (endpoint : EpId) (tlvs : List (List ℕ)) → (datagrams : List (List ℕ)) × IsPacking own endpoint tlvs datagrams

-- A datagram has at most 4,000 bytes, or those of one of the TLVs and the 12 of the sender's Node Endpoint.
abbrev pub PackingIsShort : Type 0
PackingIsShort =
    (own : NodeId) (endpoint : EpId) (tlvs datagrams : List (List ℕ)) → IsPacking own endpoint tlvs datagrams → All (IsShortDatagram tlvs) datagrams

-- Where there are TLVs there are datagrams.
abbrev pub PackingIsNotEmpty : Type 0
PackingIsNotEmpty =
    (own : NodeId) (endpoint : EpId) (tlvs datagrams : List (List ℕ))
    → IsPacking own endpoint tlvs datagrams → 0 < length tlvs → 0 < length datagrams

-- The datagrams that TLVs are packed into are read as lists of TLVs: in each first the Node Endpoint of its sender, and
-- after these the TLVs that were packed, in order.
abbrev pub PackingIsRead : Type 0
PackingIsRead =
    (own : NodeId) (endpoint : EpId) (tlvs : List PlainTlv) (datagrams : List (List ℕ))
    → All IsTlv tlvs → IsPacking own endpoint (map spelling tlvs) datagrams → AreRead own endpoint tlvs datagrams

-- Whoever is met, the peers of an endpoint stay at most 64, and each endpoint of a node is there once.
abbrev pub MeetingKeepsPeers : Type 0
MeetingKeepsPeers = (peer : Neighbour) (peers : List Neighbour) → ArePeers peers → ArePeers (peers_heard peer peers)

-- So it is whoever makes contact.
abbrev pub ContactKeepsPeers : Type 0
ContactKeepsPeers =
    (sender : Option (NodeId × EpId)) (now : ℕ) (peers : List Neighbour) → ArePeers peers
    → ArePeers (contacted sender now peers)

-- A tick does nothing at an endpoint if and only if nothing is due there.
abbrev pub UnduePortIsIdle : Type 0
UnduePortIsIdle = (now : ℕ) (port : Port) → IsPortUndue now port ↔ IsIdleAt now port

-- Where nothing is due at an endpoint, nothing is until something is.
abbrev pub UnduePortStays : Type 0
UnduePortStays =
    (port : Port) (now later : ℕ) → now ≤ later → IsPortUndue now port → ((m : ℕ) → IsPortDue port m → now < m → later < m)
    → IsPortUndue later port
