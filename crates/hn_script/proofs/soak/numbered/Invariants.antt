use Rattle.hn_base.proofs.Names.{◌≡◌, ◌+◌, ◌++◌, Some, length, map}
use Rattle.hn_script.proofs.Names.{numbered}
use Rattle.hn_script.proofs.soak.numbered.Given as goal

-- the lines so far have their numbers
abbrev pub invariant-loop-line : goal.invariant-loop-line
invariant-loop-line l = record {
  so_far : l.found ≡ numbered 2 (map Some l.yielded);
  next : l.number ≡ 2 + length l.yielded;
  left : l.fn.lines ≡ l.yielded ++ l.line-iterator.rest.items;
}
