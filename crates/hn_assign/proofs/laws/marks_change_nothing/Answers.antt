use Rattle.hn_assign.proofs.Rests.{marks_unchanged}
use Rattle.hn_assign.proofs.laws.marks_change_nothing.Goals as goal

pub returns : goal.returns
returns c = marks_unchanged
