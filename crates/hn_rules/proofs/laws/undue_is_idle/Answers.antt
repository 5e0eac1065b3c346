use Rattle.hn_rules.proofs.TickDoesNothing.{undue_idle}
use Rattle.hn_rules.proofs.laws.undue_is_idle.Goals as goal

pub returns : goal.returns
returns c = undue_idle (record { ending = c.ending_leaves.ensures; forgetting = c.forgetting_leaves.ensures.none; port = c.undue_port.ensures })
