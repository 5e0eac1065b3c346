use Rattle.hn_base.proofs.NextDue.{sooner_each}
use Rattle.hn_own.proofs.Names.{IsOwnPrefixEnd}
use Rattle.hn_own.proofs.own_prefixes.first_end.Goals as goal

pub loop-own-preserved : goal.loop-own-preserved
loop-own-preserved c =
    let x = c.own-item.result in
    sooner_each IsOwnPrefixEnd c.args.now c.args.list.now c.loop-own.own-index x x c.args.best c.loop-own.first c.next_of_prefix-first.result
    c.loop-own-test.true c.own-item.is c.loop-own.invariant c.next_of_prefix-first.ensures
