use Rattle.hn_base.proofs.Names.{◌-◌, length}
use Rattle.hn_rules.proofs.Names.{IsExpired}
use Rattle.hn_rules.proofs.Without.{LeftSoFar}
use Rattle.hn_rules.proofs.state.State.expire.Given as goal

abbrev pub invariant-loop-place : goal.invariant-loop-place
invariant-loop-place l = LeftSoFar (IsExpired l.self) l.initial.peers l.peers l.place

abbrev pub decreases-loop-place : goal.decreases-loop-place
decreases-loop-place l = length l.peers - l.place
