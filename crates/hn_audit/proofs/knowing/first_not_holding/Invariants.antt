use Rattle.hn_base.proofs.Names.{None, take}
use Rattle.hn_audit.proofs.Names.{All, IsFirstFound, FindsHeld, members_of}
use Rattle.hn_audit.proofs.knowing.first_not_holding.Given as goal

abbrev pub invariant-loop-s : goal.invariant-loop-s
invariant-loop-s l = All (λ s. IsFirstFound (FindsHeld s.now) (members_of l.set) None) (take l.s-index l.set)
