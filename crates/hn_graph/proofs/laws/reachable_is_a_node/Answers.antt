use Rattle.hn_base.proofs.Names.{Contains, refl, sym, subst, length, slice_get_read}
use Rattle.hn_graph.proofs.Names.{ids_of, contains_at, part_stands}
use Rattle.hn_graph.proofs.Ways.{along_path}
use Rattle.hn_graph.proofs.laws.reachable_is_a_node.Goals as goal

pub returns : goal.returns
returns c own nodes y reachable =
    let last = along_path own nodes (λ z. Contains nodes z) (λ x there is. there) (λ x z before recent adjacent there. there) y reachable in
    let there = last.1 in
    let at = slice_get_read nodes (length nodes) there.0 last.0 refl there.1 (sym there.2) in
    subst (Contains (ids_of nodes)) last.2 (contains_at (ids_of nodes) there.0 last.0.id.0 (part_stands (λ n. n.id.0) nodes there.0 last.0 at))
