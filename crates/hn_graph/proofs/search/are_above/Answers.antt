use Rattle.hn_base.proofs.Names.{rules, ◌≡◌, ◌<◌, Some, length, refl, get_or, slice_get, ltb-true, slice_get_read, get_or_from_slice_get}
use Rattle.hn_graph.proofs.Names.{part_stands, ids_of}
use Rattle.hn_graph.proofs.Gaps.{above_all}
use Rattle.hn_graph.proofs.search.are_above.Goals as goal

pub returns-else-place-nodes : goal.returns-else-place-nodes
returns-else-place-nodes c holds =
    let nodes = c.args.nodes.now in
    let place = c.args.place in
    let node = c.index-nodes-place.result in
    let within : place < length nodes = search rules in
    let at : slice_get nodes place ≡ Some node = slice_get_read nodes (length nodes) place node refl within c.index-nodes-place.is in
    let there : get_or (ids_of nodes) place 0 ≡ node.id.0 = get_or_from_slice_get (ids_of nodes) place node.id.0 0 (part_stands (λ n. n.id.0) nodes place node at) in
    let read : get_or nodes place node ≡ node = get_or_from_slice_get nodes place node node at in
    let less : c.args.id.0 < (get_or nodes place node).id.0 = ltb-true c.args.id.0 (get_or nodes place node).id.0 holds in
    above_all (ids_of nodes) place c.args.id.0 c.requires.ascending (rw (there, ← read) less)
