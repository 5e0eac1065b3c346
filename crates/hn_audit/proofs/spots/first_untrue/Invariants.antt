use Rattle.hn_base.proofs.Names.{None, take}
use Rattle.hn_audit.proofs.Names.{All, FindsOfPeers, members_of}
use Rattle.hn_audit.proofs.spots.first_untrue.Given as goal

abbrev pub invariant-loop-s : goal.invariant-loop-s
invariant-loop-s l = All (λ s. FindsOfPeers (members_of l.set) s.now None) (take l.s-index l.set)
