use Rattle.hn_base.proofs.Names.{take}
use Rattle.hn_assign.proofs.Names.{IsBestIfAny}
use Rattle.hn_assign.proofs.precedence.best.Given as goal

abbrev pub invariant-loop-a : goal.invariant-loop-a
invariant-loop-a l = IsBestIfAny (take l.a-index l.advertised) l.own.0 l.common l.delegated l.best
