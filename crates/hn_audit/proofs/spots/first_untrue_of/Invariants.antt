use Rattle.hn_base.proofs.Names.{None, take}
use Rattle.hn_audit.proofs.Names.{All, FindsUntrue}
use Rattle.hn_audit.proofs.spots.first_untrue_of.Given as goal

abbrev pub invariant-loop-u : goal.invariant-loop-u
invariant-loop-u l = All (λ u. FindsUntrue l.s l.peer u.now None) (take l.u-index l.set)
