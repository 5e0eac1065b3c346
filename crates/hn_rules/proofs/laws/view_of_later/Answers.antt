use Rattle.hn_base.proofs.Names.{arith}
use Rattle.hn_rules.proofs.SeenWhileTimePasses.{view_later}
use Rattle.hn_rules.proofs.laws.view_of_later.Goals as goal

pub returns : goal.returns
returns c now s router begun = view_later c.held_is_of_an_entry.ensures s s.moment now router.well.past (omega arith) begun
