use Rattle.hn_base.proofs.Names.{None, take}
use Rattle.hn_audit.proofs.Names.{All, IsFirstFound, FindsUntrue, AreSaid, members_of}
use Rattle.hn_audit.proofs.spots.first_untrue_peer.Given as goal

abbrev pub invariant-loop-peer : goal.invariant-loop-peer
invariant-loop-peer l = record {
  are_said : AreSaid l.s.router.own.body l.peer-items;
  so_far : All (λ peer. IsFirstFound (FindsUntrue l.s peer) (members_of l.set) None) (take l.peer-index l.peer-items);
}
