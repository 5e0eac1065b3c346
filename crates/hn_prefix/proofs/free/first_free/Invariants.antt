use Rattle.hn_base.proofs.Names.{◌+◌, ◌*◌, ◌≤◌, length}
use Rattle.hn_prefix.proofs.JumpsLeft.{jumps_left}
use Rattle.hn_prefix.proofs.PlaceAfterStart.{EachTakenBefore}
use Rattle.hn_prefix.proofs.free.first_free.Given as goal

abbrev pub invariant-loop-ahead : goal.invariant-loop-ahead
invariant-loop-ahead l = record {
  each_taken_before : EachTakenBefore l.taken l.outer l.len l.start l.ahead;
  from_in_taken : l.from ≤ length l.taken;
  few_jumps_left : jumps_left l.outer l.taken l.len (l.first + l.ahead) ≤ 2 * length l.taken;
}

-- each iteration is a jump past a taken prefix: at most two for each one, whatever the number of places
abbrev pub decreases-loop-ahead : goal.decreases-loop-ahead
decreases-loop-ahead l = jumps_left l.outer l.taken l.len (l.first + l.ahead)
