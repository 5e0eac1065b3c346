use Rattle.hn_base.proofs.Names.{None, take}
use Rattle.hn_audit.proofs.Names.{All, FindsNotAtRest}
use Rattle.hn_audit.proofs.resting.first_not_at_rest.Given as goal

abbrev pub invariant-loop-wish : goal.invariant-loop-wish
invariant-loop-wish l = All (λ wish. FindsNotAtRest l.s.name l.known l.s.router.id.0 l.s.router.held.assigned wish None) (take l.wish-index l.wishes)
