use Rattle.hn_base.proofs.Names.{take, All}
use Rattle.hn_rules.proofs.Names.{IsExpired}
use Rattle.hn_rules.proofs.state.State.is_some_expired.Given as goal

abbrev pub invariant-loop-peer : goal.invariant-loop-peer
invariant-loop-peer l = All (λ peer. ¬ (IsExpired l.self peer)) (take l.peer-index l.peers)
