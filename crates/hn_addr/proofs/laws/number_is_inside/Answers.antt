use Rattle.hn_addr.proofs.NumbersInPrefix.{number_inside}
use Rattle.hn_addr.proofs.laws.number_is_inside.Goals as goal

pub returns : goal.returns
returns c = number_inside
