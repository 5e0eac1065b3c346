use Rattle.hn_base.proofs.Names.{◌≤◌}
use Rattle.hn_world.proofs.SameNames.{AreSameFrom}
use Rattle.hn_world.proofs.member.are_same.Given as goal

abbrev pub invariant-loop-left : goal.invariant-loop-left
invariant-loop-left l = (l.left ≤ l.a.len) × AreSameFrom l.a.bytes l.b.bytes l.a.len l.left

abbrev pub decreases-loop-left : goal.decreases-loop-left
decreases-loop-left l = l.left
