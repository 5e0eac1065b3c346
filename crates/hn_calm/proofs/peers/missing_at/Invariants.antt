use Rattle.hn_base.proofs.Names.{◌≡◌, All, None, take}
use Rattle.hn_calm.specs.Peers.{FindsPeer}
use Rattle.hn_calm.proofs.peers.missing_at.Given as goal

abbrev pub invariant-loop-peer : goal.invariant-loop-peer
invariant-loop-peer l = record {
  all : l.peer-items ≡ l.port.peers;
  so_far : All (λ one. FindsPeer l.world.parts l.r l.y l.port one None) (take l.peer-index l.peer-items);
}
