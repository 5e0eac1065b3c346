use Rattle.hn_base.proofs.Names.{take}
use Rattle.hn_assign.specs.Renewed.{IsOfChanged}
use Rattle.hn_assign.proofs.GrownByEach.{Grown}
use Rattle.hn_assign.proofs.renewing.add_changed.Given as goal

abbrev pub invariant-loop-node : goal.invariant-loop-node
invariant-loop-node l = Grown (IsOfChanged l.own.0 l.changed) l.initial.items.items (take l.node-index l.nodes) l.items.items
