use Rattle.hn_base.proofs.Names.{◌≤◌, ◌++◌, take, drop, length}
use Rattle.hn_assign.specs.Renewed.{IsOfUnchanged}
use Rattle.hn_assign.proofs.GrownByEach.{Grown}
use Rattle.hn_assign.proofs.renewing.joined.Given as goal

abbrev pub invariant-loop-a : goal.invariant-loop-a
invariant-loop-a l = record {
  within : l.next ≤ length l.fresh;
  those : Grown (IsOfUnchanged l.changed) l.fresh (take l.a-index l.known) (l.all.items ++ drop l.next l.fresh);
}
