use Rattle.hn_base.proofs.Names.{None, take}
use Rattle.hn_audit.proofs.Names.{All, FindsUnseen, plain_spot}
use Rattle.hn_audit.proofs.spots.first_unseen_by.Given as goal

abbrev pub invariant-loop-b : goal.invariant-loop-b
invariant-loop-b l = All (λ b. FindsUnseen (plain_spot l.a) (plain_spot b) None) (take l.b-index l.spots)
