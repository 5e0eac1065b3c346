use Rattle.hn_base.proofs.Names.{◌≡◌, All, None, take}
use Rattle.hn_calm.specs.Peers.{FindsSent}
use Rattle.hn_calm.proofs.sent.sent_by.Given as goal

abbrev pub invariant-loop-port : goal.invariant-loop-port
invariant-loop-port l = record {
  all : l.port-items ≡ l.x.router.ports;
  so_far : All (λ one. FindsSent l.x l.y l.q l.peer l.after one None) (take l.port-index l.port-items);
}
