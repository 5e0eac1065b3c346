use Rattle.hn_base.proofs.Names.{take}
use Rattle.hn_assign.proofs.Names.{IsOfOther}
use Rattle.hn_assign.proofs.GrownByEach.{Grown}
use Rattle.hn_assign.proofs.gathering.add_others.Given as goal

abbrev pub invariant-loop-node : goal.invariant-loop-node
invariant-loop-node l = Grown (IsOfOther l.own.0) l.initial.items.items (take l.node-index l.nodes) l.items.items
