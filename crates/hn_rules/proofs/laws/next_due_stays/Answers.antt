use Rattle.hn_rules.proofs.SeenWhileTimePasses.{due_stays}
use Rattle.hn_rules.proofs.laws.next_due_stays.Goals as goal

pub returns : goal.returns
returns c = due_stays c.held_is_of_an_entry.ensures c.ends_of_later.ensures
