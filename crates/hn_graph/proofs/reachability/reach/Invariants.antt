use Rattle.hn_base.proofs.Names.{◌≡◌, ◌+◌, length, not, count_by}
use Rattle.hn_graph.proofs.Progress.{IsUnderway}
use Rattle.hn_graph.proofs.reachability.reach.Given as goal

-- each node is visited, to be visited, or not marked yet
abbrev pub invariant-loop-place : goal.invariant-loop-place
invariant-loop-place l = record {
  underway : IsUnderway l.fn.own.0 l.nodes l.found.items l.visits.items;
  counted : l.visited + length l.visits.items + count_by not l.found.items ≡ length l.nodes;
}

abbrev pub decreases-loop-place : goal.decreases-loop-place
decreases-loop-place l = count_by not l.found.items + length l.visits.items
