use Rattle.hn_base.proofs.Names.{take}
use Rattle.hn_graph.proofs.Names.{HasMarked}
use Rattle.hn_graph.proofs.search.mark.Given as goal

abbrev pub invariant-loop-place : goal.invariant-loop-place
invariant-loop-place l = HasMarked (take l.place-index l.places) l.fn.found.items l.fn.visits.items l.found.items l.visits.items
