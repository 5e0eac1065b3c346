use Rattle.hn_deleg.proofs.Names.{sooner_each, IsEndIn}
use Rattle.hn_deleg.proofs.ends.next_end.Goals as goal

pub loop-node-preserved : goal.loop-node-preserved
loop-node-preserved c =
    let node = c.node-item.result in
    sooner_each (IsEndIn c.args.view.now.now) c.args.view.now.now c.args.view.now.nodes.now c.loop-node.node-index node node c.args.best
    c.loop-node.first c.next_of_node-first.result c.loop-node-test.true c.node-item.is c.loop-node.invariant c.next_of_node-first.ensures
