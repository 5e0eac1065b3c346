use Rattle.hn_rules.proofs.Growing.{only_add}
use Rattle.hn_rules.proofs.laws.changes_only_add.Goals as goal

pub returns : goal.returns
returns c = only_add
