use Rattle.hn_base.proofs.NextDue.{sooner_each}
use Rattle.hn_store.proofs.Names.{IsForgottenFrom}
use Rattle.hn_store.proofs.loss.first_forgotten.Goals as goal

pub loop-node-preserved : goal.loop-node-preserved
loop-node-preserved c =
    let node = c.node-item.result in
    sooner_each IsForgottenFrom c.args.now c.args.nodes.now c.loop-node.node-index node node c.args.best c.loop-node.first c.next_forgotten-first.result
    c.loop-node-test.true c.node-item.is c.loop-node.invariant c.next_forgotten-first.ensures
