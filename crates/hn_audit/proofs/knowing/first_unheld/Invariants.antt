use Rattle.hn_base.proofs.Names.{None, take}
use Rattle.hn_audit.proofs.Names.{All, FindsHeld}
use Rattle.hn_audit.proofs.knowing.first_unheld.Given as goal

abbrev pub invariant-loop-u : goal.invariant-loop-u
invariant-loop-u l = All (λ u. FindsHeld l.s u.now None) (take l.u-index l.set)
