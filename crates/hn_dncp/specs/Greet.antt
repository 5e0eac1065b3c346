-- A Node Endpoint TLV names a datagram's sender (RFC 7787, sections 4.4 and 4.5).
use Rattle.std.specs.Prelude.{ℕ, Bool, ◌==◌, if◌then◌else◌, List, [], ◌∷◌, ◌++◌, length, map}
use Rattle.hn_base.specs.declared.ids.NodeId.{NodeId}
use Rattle.hn_base.specs.declared.ids.EpId.{EpId}
use Rattle.hn_base.specs.declared.addr.Addr.{Addr}
use Rattle.hn_dncp.specs.declared.peers.Neighbour.{Neighbour}
use Rattle.hn_dncp.specs.declared.port.Port.{Port}
use Rattle.hn_dncp.specs.declared.greet.Greet.{Greet}
use Rattle.hn_dncp.specs.declared.greet.Greet.TheVariants.{Known, Added, Full, Unknown}
use Rattle.hn_dncp.specs.Peers.{is_peer, has_peer}

-- Whether the sender is a known peer. An unknown one is added only by unicast, and only where there are fewer than 64.
abbrev pub greeting : NodeId → EpId → Bool → List Neighbour → Greet
greeting node endpoint multicast peers =
    if has_peer node endpoint peers then Known
    else (if multicast then Unknown
    else (if length peers == 64 then Full
    else Added))

-- the peers, after one was heard by unicast: a known one is renewed, an unknown one is added where there is room
abbrev pub peers_heard : Neighbour → List Neighbour → List Neighbour
peers_heard peer peers =
    if has_peer peer.node peer.endpoint peers then map (λ other. if is_peer peer.node peer.endpoint other then peer else other) peers
    else (if length peers == 64 then peers
    else peers ++ peer ∷ [])

-- the endpoint after a Node Endpoint TLV; by multicast nothing changes
abbrev pub greeted : NodeId → EpId → Addr → Bool → ℕ → Port → Port
greeted node endpoint from multicast now port =
    let peer : Neighbour = record { node = node; endpoint = endpoint; contact = now; addr = from } in
    record port { peers = if multicast then port.peers else peers_heard peer port.peers }
