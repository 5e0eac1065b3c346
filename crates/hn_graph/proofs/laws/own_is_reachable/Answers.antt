use Rattle.hn_base.proofs.Names.{subst}
use Rattle.hn_graph.proofs.Names.{IsReachable, contains_at}
use Rattle.hn_base.proofs.PartsAtPlaces.{part_of}
use Rattle.hn_graph.proofs.Ways.{way_to_own, path_from_way}
use Rattle.hn_graph.proofs.laws.own_is_reachable.Goals as goal

pub returns : goal.returns
returns c own nodes network =
    let node = part_of (λ n. n.id.0) nodes own network.own_is_there in
    subst (IsReachable own nodes) node.3 (path_from_way own nodes node.1 (way_to_own own nodes node.1 (contains_at nodes node.0 node.1 node.2) node.3))
