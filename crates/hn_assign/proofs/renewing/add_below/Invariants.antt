use Rattle.hn_base.proofs.Names.{◌≡◌, ◌≤◌, ◌++◌, drop, length}
use Rattle.hn_assign.proofs.renewing.add_below.Given as goal

abbrev pub invariant-loop-place : goal.invariant-loop-place
invariant-loop-place l = record {
  within : l.place ≤ length l.fresh;
  moved : l.all.items ++ drop l.place l.fresh ≡ l.initial.all.items ++ drop l.next l.fresh;
}
