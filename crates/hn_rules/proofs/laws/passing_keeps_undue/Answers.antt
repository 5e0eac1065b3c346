use Rattle.hn_rules.proofs.PassedIsUndue.{passing_keeps}
use Rattle.hn_rules.proofs.laws.passing_keeps_undue.Goals as goal

pub returns : goal.returns
returns c = passing_keeps c.idle_while_undue.ensures c.idle_is_undue.ensures c.undue_is_idle.ensures c.expiry_is_a_moment.ensures
