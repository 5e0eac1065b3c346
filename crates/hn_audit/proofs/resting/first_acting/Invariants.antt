use Rattle.hn_base.proofs.Names.{None, take}
use Rattle.hn_audit.proofs.Names.{All, FindsOfRouter}
use Rattle.hn_audit.proofs.resting.first_acting.Given as goal

abbrev pub invariant-loop-s : goal.invariant-loop-s
invariant-loop-s l = All (λ s. FindsOfRouter s.now None) (take l.s-index l.set)
