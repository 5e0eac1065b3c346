use Rattle.hn_rules.proofs.Dues.{one_next_due}
use Rattle.hn_rules.proofs.laws.next_due_is_one.Goals as goal

pub returns : goal.returns
returns c = one_next_due
