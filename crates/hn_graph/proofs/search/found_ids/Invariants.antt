use Rattle.hn_graph.proofs.MarkedIds.{AreFound}
use Rattle.hn_graph.proofs.search.found_ids.Given as goal

abbrev pub invariant-loop-place : goal.invariant-loop-place
invariant-loop-place l = AreFound l.nodes l.found l.place l.ids.items
