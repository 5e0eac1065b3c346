use Rattle.hn_base.proofs.Names.{ℕ, ◌<◌}
use Rattle.hn_audit.proofs.Names.{AreSameAt}
use Rattle.hn_audit.proofs.knowing.are_same.Given as goal

abbrev pub invariant-loop-place : goal.invariant-loop-place
invariant-loop-place l = (k : ℕ) → k < l.place → AreSameAt l.a l.b k
