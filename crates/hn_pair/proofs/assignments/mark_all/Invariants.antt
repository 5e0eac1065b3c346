use Rattle.hn_base.proofs.Names.{◌≡◌, ◌++◌, take, drop, map}
use Rattle.hn_pair.proofs.Names.{marked_applied}
use Rattle.hn_pair.proofs.assignments.mark_all.Given as goal

abbrev pub invariant-loop-c : goal.invariant-loop-c
invariant-loop-c l = l.items ≡ map (marked_applied l.now) (take l.c-index l.initial.items) ++ drop l.c-index l.initial.items
