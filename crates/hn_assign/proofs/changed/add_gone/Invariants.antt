use Rattle.hn_base.proofs.Names.{take}
use Rattle.hn_assign.specs.Changed.{HasNodeOf, AreTold}
use Rattle.hn_assign.proofs.changed.add_gone.Given as goal

abbrev pub invariant-loop-was : goal.invariant-loop-was
invariant-loop-was l = AreTold (HasNodeOf l.after) (take l.was-index l.before) l.initial.ids.items l.ids.items
