use Rattle.hn_rules.proofs.SameIds.{tick_id}
use Rattle.hn_rules.proofs.laws.tick_keeps_the_identifier.Goals as goal

pub returns : goal.returns
returns c = tick_id
