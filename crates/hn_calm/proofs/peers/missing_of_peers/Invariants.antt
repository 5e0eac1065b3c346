use Rattle.hn_base.proofs.Names.{◌≡◌, All, None, take}
use Rattle.hn_calm.specs.Peers.{FindsAtRouter}
use Rattle.hn_calm.proofs.peers.missing_of_peers.Given as goal

abbrev pub invariant-loop-y : goal.invariant-loop-y
invariant-loop-y l = record {
  all : l.y-items ≡ l.world.parts.members;
  so_far : All (λ one. FindsAtRouter l.world.parts l.r one None) (take l.y-index l.y-items);
}
