use Rattle.hn_rules.proofs.TickDoesNothing.{idle_until}
use Rattle.hn_rules.proofs.laws.idle_until_due.Goals as goal

pub returns : goal.returns
returns c = idle_until c.undue_is_idle.ensures c.idle_is_undue.ensures c.undue_stays.ensures c.next_due_stays.ensures
