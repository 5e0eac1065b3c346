use Rattle.hn_timers.proofs.Lengths.{IsLength-next_length}
use Rattle.hn_timers.proofs.trickle.Trickle.next.Goals as goal

pub start-requires-clause-of_length : goal.start-requires-clause-of_length
start-requires-clause-of_length c = rw c.min.ensures (IsLength-next_length c.self.inside.len c.self.invariant.of_length)
