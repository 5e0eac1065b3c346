use Rattle.hn_rules.proofs.NothingDueLasts.{reached_while_undue}
use Rattle.hn_rules.proofs.laws.kept_undue_reaches.Goals as goal

pub returns : goal.returns
returns c = reached_while_undue c.reachability_stays.ensures
