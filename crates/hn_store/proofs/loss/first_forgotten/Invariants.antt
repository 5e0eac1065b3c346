use Rattle.hn_base.proofs.Names.{take, IsSooner}
use Rattle.hn_store.specs.Due.{IsForgetting}
use Rattle.hn_store.proofs.loss.first_forgotten.Given as goal

abbrev pub invariant-loop-node : goal.invariant-loop-node
invariant-loop-node l = IsSooner (IsForgetting (take l.node-index l.nodes)) l.now l.best l.first
