use Rattle.hn_base.proofs.Names.{subst, All, iff_false, take_all}
use Rattle.hn_rules.proofs.Names.{Neighbour, IsExpired}
use Rattle.hn_rules.proofs.TouchesNothingRead.{all_next}
use Rattle.hn_rules.proofs.state.State.is_some_expired.Goals as goal

pub loop-peer-preserved : goal.loop-peer-preserved
loop-peer-preserved c =
    all_next (λ (peer : Neighbour). ¬ (IsExpired c.args.self.now peer)) c.args.peers.now c.loop-peer.peer-index _ c.loop-peer-test.true c.loop-peer.invariant
    (iff_false c.is_expired.ensures c.if-is_expired.false)

pub returns : goal.returns
returns c none =
    subst (All (λ (peer : Neighbour). ¬ (IsExpired c.args.self.now peer))) (take_all c.loop-peer.peer-index c.args.peers.now c.loop-peer-test.false) c.loop-peer.invariant
