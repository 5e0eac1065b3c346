use Rattle.hn_base.proofs.Names.{take}
use Rattle.hn_assign.specs.Changed.{SaidSame, AreTold}
use Rattle.hn_assign.proofs.changed.add_others.Given as goal

abbrev pub invariant-loop-node : goal.invariant-loop-node
invariant-loop-node l = AreTold (SaidSame l.before) (take l.node-index l.after) l.initial.ids.items l.ids.items
