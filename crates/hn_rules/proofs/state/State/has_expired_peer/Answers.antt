use Rattle.hn_base.proofs.Names.{◌∙◌, subst, All, take_all}
use Rattle.hn_rules.proofs.Names.{Neighbour, Port, IsExpired}
use Rattle.hn_rules.proofs.TouchesNothingRead.{all_next}
use Rattle.hn_rules.proofs.state.State.has_expired_peer.Goals as goal

pub loop-port-preserved : goal.loop-port-preserved
loop-port-preserved c =
    let P = λ (port : Port). All (λ (peer : Neighbour). ¬ (IsExpired c.args.self.now peer)) port.peers in
    let here = subst (All (λ (peer : Neighbour). ¬ (IsExpired c.args.self.now peer))) c.as_slice.ensures.peers (c.is_some_expired.ensures c.if-is_some_expired.false) in
    record {
      all = c.loop-port.invariant.all;
      so_far = all_next P c.as_slice-port-items.result.now c.loop-port.port-index c.port-item.result c.loop-port-test.true c.loop-port.invariant.so_far (subst P c.port-item.is here);
    }

pub returns : goal.returns
returns c none =
    subst (All (λ (port : Port). All (λ (peer : Neighbour). ¬ (IsExpired c.args.self.now peer)) port.peers))
    (take_all c.loop-port.port-index c.as_slice-port-items.result.now c.loop-port-test.false ∙ c.loop-port.invariant.all) c.loop-port.invariant.so_far
