use Rattle.hn_pair.proofs.Names.{sooner_each, IsBackoffDue}
use Rattle.hn_pair.proofs.due.first_due.Goals as goal

pub loop-b-preserved : goal.loop-b-preserved
loop-b-preserved c =
    let x = c.b-item.result in
    sooner_each IsBackoffDue c.args.now c.args.backoffs.now c.loop-b.b-index x x c.args.best c.loop-b.first c.sooner-first.result c.loop-b-test.true c.b-item.is
    c.loop-b.invariant c.sooner-first.ensures
