use Rattle.hn_base.proofs.NextDue.{sooner_both}
use Rattle.hn_deleg.proofs.Names.{IsEnd}
use Rattle.hn_deleg.proofs.ends.next_of_delegation.Goals as goal

pub returns : goal.returns
returns c =
    let d = c.args.d.now in
    sooner_both (IsEnd c.args.now c.args.age d.valid) (IsEnd c.args.now c.args.age d.preferred) c.args.now c.args.best
    c.next_of_lifetime-valid.result c.next_of_lifetime.result c.next_of_lifetime-valid.ensures c.next_of_lifetime.ensures
