use Rattle.hn_base.proofs.Names.{◌≡◌, ◌++◌, map, take, drop}
use Rattle.hn_store.proofs.Names.{marked_node}
use Rattle.hn_store.proofs.loss.mark_each.Given as goal

-- the nodes so far are marked, and the others are as they were
abbrev pub invariant-loop-node : goal.invariant-loop-node
invariant-loop-node l = l.nodes ≡ map (marked_node l.reach l.now) (take l.node-index l.initial.nodes) ++ drop l.node-index l.initial.nodes
