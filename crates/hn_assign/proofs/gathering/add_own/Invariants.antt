use Rattle.hn_base.proofs.Names.{take}
use Rattle.hn_assign.proofs.Names.{IsOwn}
use Rattle.hn_assign.proofs.GrownByEach.{Grown}
use Rattle.hn_assign.proofs.gathering.add_own.Given as goal

abbrev pub invariant-loop-c : goal.invariant-loop-c
invariant-loop-c l = Grown (IsOwn l.own.0) l.initial.items.items (take l.c-index l.assigned) l.items.items
