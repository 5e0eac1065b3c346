use Rattle.hn_base.proofs.Names.{◌≡◌, All, None, take}
use Rattle.hn_calm.specs.Peers.{FindsAtPort}
use Rattle.hn_calm.proofs.peers.missing_at_ports.Given as goal

abbrev pub invariant-loop-port : goal.invariant-loop-port
invariant-loop-port l = record {
  all : l.port-items ≡ l.y.router.ports;
  so_far : All (λ one. FindsAtPort l.world.parts l.r l.y one None) (take l.port-index l.port-items);
}
