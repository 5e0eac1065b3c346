use Rattle.hn_base.proofs.Names.{refl}
use Rattle.hn_rules.proofs.Names.{sooner_each, IsPeerEnd}
use Rattle.hn_rules.proofs.state.State.next_of_peers.Goals as goal

pub loop-peer-preserved : goal.loop-peer-preserved
loop-peer-preserved c =
    let s = c.args.self.now in
    sooner_each (IsPeerEnd s.table.entries) s.moment c.args.peers.now c.loop-peer.peer-index _ _ c.args.best c.loop-peer.first
    c.next_of_peer-first.result c.loop-peer-test.true refl c.loop-peer.invariant c.next_of_peer-first.ensures
