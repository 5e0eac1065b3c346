use Rattle.hn_base.proofs.Names.{take, IsSooner, IsOfElement}
use Rattle.hn_deleg.proofs.Names.{IsEndIn}
use Rattle.hn_deleg.proofs.ends.next_end.Given as goal

abbrev pub invariant-loop-node : goal.invariant-loop-node
invariant-loop-node l = IsSooner (IsOfElement (IsEndIn l.view.now) (take l.node-index l.view.nodes.now)) l.view.now l.best l.first
