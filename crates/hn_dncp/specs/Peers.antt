-- The peers of an endpoint (RFC 7787, section 2).
use Rattle.std.specs.Prelude.{◌≡◌, ◌≤◌, Bool, false, ◌==◌, ◌&&◌, List, length}
use Rattle.std.specs.List.{list_any, AllPairs}
use Rattle.hn_base.specs.declared.ids.NodeId.{NodeId}
use Rattle.hn_base.specs.declared.ids.EpId.{EpId}
use Rattle.hn_dncp.specs.declared.peers.Neighbour.{Neighbour}

-- whether a peer is that endpoint of that node
abbrev pub is_peer : NodeId → EpId → Neighbour → Bool
is_peer node endpoint peer = peer.node.0 == node.0 && peer.endpoint.0 == endpoint.0

-- whether one of the peers is
abbrev pub has_peer : NodeId → EpId → List Neighbour → Bool
has_peer node endpoint peers = list_any (is_peer node endpoint) peers

-- two peers are not the same endpoint of one node
abbrev pub IsOther : Neighbour → Neighbour → Type 0
IsOther peer other = is_peer peer.node peer.endpoint other ≡ false

-- what holds of the peers of an endpoint: they are at most 64, and each endpoint of a node is there once
pub record ArePeers (peers : List Neighbour) : Type 0 where
  pub few : length peers ≤ 64
  pub once : AllPairs IsOther peers
