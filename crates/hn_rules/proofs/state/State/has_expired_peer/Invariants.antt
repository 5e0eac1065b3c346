use Rattle.hn_base.proofs.Names.{◌≡◌, take, All}
use Rattle.hn_rules.proofs.Names.{IsExpired}
use Rattle.hn_rules.proofs.state.State.has_expired_peer.Given as goal

abbrev pub invariant-loop-port : goal.invariant-loop-port
invariant-loop-port l = record {
  all : l.port-items ≡ l.self.ports;
  so_far : All (λ port. All (λ peer. ¬ (IsExpired l.self peer)) port.peers) (take l.port-index l.port-items);
}
