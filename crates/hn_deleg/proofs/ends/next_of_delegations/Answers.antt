use Rattle.hn_deleg.proofs.Names.{sooner_each, IsDelegationEnd}
use Rattle.hn_deleg.proofs.ends.next_of_delegations.Goals as goal

pub loop-d-preserved : goal.loop-d-preserved
loop-d-preserved c =
    let d = c.d-item.result in
    sooner_each (IsDelegationEnd c.args.now c.args.age) c.args.now c.args.delegations.now c.loop-d.d-index d d c.args.best c.loop-d.first
    c.next_of_delegation-first.result c.loop-d-test.true c.d-item.is c.loop-d.invariant c.next_of_delegation-first.ensures
