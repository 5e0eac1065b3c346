use Rattle.hn_base.proofs.Names.{None, take}
use Rattle.hn_audit.proofs.Names.{All, FindsReach}
use Rattle.hn_audit.proofs.knowing.first_of_other_reach.Given as goal

abbrev pub invariant-loop-s : goal.invariant-loop-s
invariant-loop-s l = All (λ s. FindsReach l.reach s.now None) (take l.s-index l.set)
