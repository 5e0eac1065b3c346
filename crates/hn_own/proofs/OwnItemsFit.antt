-- The own items of a router: how many, and whether their numbers fit, by what they are made of.
use Rattle.hn_base.proofs.Names.{◌<◌, ◌≤◌, ◌*◌, ◌^◌, ℕ, List, [], ◌∷◌, length, Option, None, Some, arith, length-append, All, length-map, All-append, All-cons, All-head, All-map, All-nil, All-tail}
use Rattle.hn_own.proofs.Names.{Assigned, Port, published_in, link_at, links_at, IsRangedLink, IsRangedAssigned}
use Rattle.hn_dncp.specs.Peers.{ArePeers}
use Rattle.hn_own.specs.Laws.{OwnItemsAreFew, OwnItemsAreRanged}
use Rattle.hn_own.specs.Own.{links_of}
use Rattle.hn_own.specs.Ranges.{IsRangedPeer, IsRangedHeld}
use Rattle.hn_own.proofs.PairLists.{published_in-few, published_in-priority}

abbrev HasPeers : Port → Type 0
HasPeers port = ArePeers port.peers

abbrev IsNumberedPort : Port → Type 0
IsNumberedPort port = (0 < port.id.0) × (port.id.0 < 2 ^ 32)

abbrev HasRangedPeers : Port → Type 0
HasRangedPeers port = All IsRangedPeer port.peers

few_links : (ports : List Port) → All HasPeers ports → length (links_of ports) ≤ 64 * length ports
few_links [] each = omega arith
few_links (port ∷ ports) each =
    let first = (All-head HasPeers port ports each).few in
    let rest = few_links ports (All-tail HasPeers port ports each) in
    omega (arith, length-append (links_at port) (links_of ports), length-map port.peers (link_at port))

ranged_links : (ports : List Port) → All IsNumberedPort ports → All HasRangedPeers ports → All IsRangedLink (links_of ports)
ranged_links [] numbered each = All-nil IsRangedLink
ranged_links (port ∷ ports) numbered each =
    let peers = All-head HasRangedPeers port ports each in
    let number = (All-head IsNumberedPort port ports numbered).1 in
    All-append IsRangedLink (links_at port) (links_of ports)
    (All-map IsRangedLink (link_at port) port.peers (λ k d within. record { peer = (peers k d within).node; peer_endpoint = (peers k d within).endpoint; endpoint = number }))
    (ranged_links ports (All-tail IsNumberedPort port ports numbered) (All-tail HasRangedPeers port ports each))

ranged_assigned : (assigned : List Assigned) → All IsRangedHeld assigned → All IsRangedAssigned (published_in assigned)
ranged_assigned [] each = All-nil IsRangedAssigned
ranged_assigned (c ∷ assigned) each = by_published c.published (All-head IsRangedHeld c assigned each) (ranged_assigned assigned (All-tail IsRangedHeld c assigned each))
  where
    by_published : (published : Option ℕ) → IsRangedHeld c → All IsRangedAssigned (published_in assigned)
        → All IsRangedAssigned (published_in (record c { published = published } ∷ assigned))
    by_published None is rest = rest
    by_published (Some priority) is rest =
        All-cons IsRangedAssigned (record { endpoint = c.endpoint; priority = priority; prefix = c.prefix }) (published_in assigned) (record { endpoint = is.endpoint; prefix = is.prefix }) rest

pub items_few : OwnItemsAreFew
items_few caps ports delegated held addresses are_ports peers are_prefixes are_pairs are_addresses =
    let few_ports = are_ports.few in
    let few_assigned = are_pairs.few in
    record {
      links = omega (arith, few_links ports peers);
      delegated = are_prefixes.few;
      assigned = omega (arith, published_in-few held.assigned);
      priority = published_in-priority held.assigned are_pairs.priority;
      addresses = are_addresses.few;
    }

pub items_ranged : OwnItemsAreRanged
items_ranged caps ports delegated held addresses are_ports ranged = record {
  links = ranged_links ports are_ports.numbered ranged.peers;
  delegated = ranged.delegated;
  assigned = ranged_assigned held.assigned ranged.assigned;
  addresses = ranged.addresses;
}
