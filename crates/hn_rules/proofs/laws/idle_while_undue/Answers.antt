use Rattle.hn_rules.proofs.TickDoesNothing.{idle_while}
use Rattle.hn_rules.proofs.laws.idle_while_undue.Goals as goal

pub returns : goal.returns
returns c = idle_while c.undue_is_idle.ensures c.idle_is_undue.ensures c.undue_stays.ensures c.held_is_of_an_entry.ensures c.ends_of_later.ensures
