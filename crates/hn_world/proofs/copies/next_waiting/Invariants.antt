use Rattle.hn_base.proofs.Names.{◌≤◌, ◌-◌, length, unwrap_or}
use Rattle.hn_world.proofs.Names.{first_waiting}
use Rattle.hn_world.proofs.copies.next_waiting.Given as goal

abbrev pub invariant-loop-first : goal.invariant-loop-first
invariant-loop-first l = l.first ≤ unwrap_or (first_waiting l.copies) (length l.copies)

abbrev pub decreases-loop-first : goal.decreases-loop-first
decreases-loop-first l = length l.copies - l.first
