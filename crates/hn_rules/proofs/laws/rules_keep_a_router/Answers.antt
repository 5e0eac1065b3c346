use Rattle.hn_rules.proofs.Routers.{arrival_keeps, forgetting_keeps, ports_keep}
use Rattle.hn_rules.proofs.laws.rules_keep_a_router.Goals as goal

pub returns : goal.returns
returns c =
    let each = c.changes_keep_the_rest.ensures in
    record { arrival = arrival_keeps each; forgetting = forgetting_keeps each c.reachability_stays.ensures; ports = ports_keep each }
