use Rattle.hn_rules.proofs.Limits.{limit_stays}
use Rattle.hn_rules.proofs.laws.changes_keep_the_limit.Goals as goal

pub returns : goal.returns
returns c = limit_stays
