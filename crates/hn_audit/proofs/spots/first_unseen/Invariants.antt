use Rattle.hn_base.proofs.Names.{None, take}
use Rattle.hn_audit.proofs.Names.{All, IsFirstFound, FindsUnseen, plain_spot, plain_spots}
use Rattle.hn_audit.proofs.spots.first_unseen.Given as goal

abbrev pub invariant-loop-a : goal.invariant-loop-a
invariant-loop-a l = All (λ a. IsFirstFound (FindsUnseen (plain_spot a)) (plain_spots l.spots) None) (take l.a-index l.spots)
