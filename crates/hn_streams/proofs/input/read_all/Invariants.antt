use Rattle.hn_base.proofs.Names.{◌≡◌, ◌≤◌, ◌+◌, ◌-◌, length, Consumes}
use Rattle.hn_script.specs.declared.script.TheConstants.{SOURCE_LIMIT}
use Rattle.hn_streams.proofs.input.read_all.Given as goal

-- what was read so far
abbrev pub invariant-loop-buf : goal.invariant-loop-buf
invariant-loop-buf g l =
    let source = g.S.Source in
    record {
      read : Consumes (source.left l.fn.src) (source.left l.src) l.bytes.items;
      bounded : length l.bytes.items ≤ SOURCE_LIMIT + 1;
      no_fault : source.faults l.src ≡ source.faults l.fn.src;
      reliable : source.never_fails l.fn.src → source.never_fails l.src;
    }

abbrev pub decreases-loop-buf : goal.decreases-loop-buf
decreases-loop-buf g l = SOURCE_LIMIT + 1 - length l.bytes.items
