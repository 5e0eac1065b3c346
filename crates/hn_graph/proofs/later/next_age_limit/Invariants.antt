use Rattle.hn_base.proofs.Names.{take, IsSooner}
use Rattle.hn_graph.proofs.Names.{IsAgeLimit}
use Rattle.hn_graph.proofs.later.next_age_limit.Given as goal

abbrev pub invariant-loop-node : goal.invariant-loop-node
invariant-loop-node l = IsSooner (IsAgeLimit (take l.node-index l.nodes) l.now) l.now l.best l.first
