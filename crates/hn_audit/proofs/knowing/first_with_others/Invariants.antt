use Rattle.hn_base.proofs.Names.{None, take}
use Rattle.hn_audit.proofs.Names.{All, FindsUsed}
use Rattle.hn_audit.proofs.knowing.first_with_others.Given as goal

abbrev pub invariant-loop-s : goal.invariant-loop-s
invariant-loop-s l = All (λ s. FindsUsed l.r s.now None) (take l.s-index l.set)
