use Rattle.hn_base.proofs.Names.{take, Contains, IsAbove, Overlaps}
use Rattle.hn_assign.proofs.Names.{Advertised, IsAdvertisedOnLink}
use Rattle.hn_assign.proofs.precedence.valid.Given as goal

abbrev pub invariant-loop-a : goal.invariant-loop-a
invariant-loop-a l = (a : Advertised) → Contains (take l.a-index l.advertised) a → ¬ (IsAdvertisedOnLink l.common a) → Overlaps a.prefix l.c.prefix → ¬ (IsAbove a.key l.key)
