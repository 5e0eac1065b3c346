use Rattle.hn_pair.proofs.Names.{sooner_each, IsMarkDue}
use Rattle.hn_pair.proofs.due.first_mark.Goals as goal

pub loop-c-preserved : goal.loop-c-preserved
loop-c-preserved c =
    let x = c.c-item.result in
    sooner_each IsMarkDue c.args.now c.args.assigned.now c.loop-c.c-index x x c.args.best c.loop-c.first c.next_mark-first.result c.loop-c-test.true c.c-item.is
    c.loop-c.invariant c.next_mark-first.ensures
