use Rattle.hn_departed.proofs.Turns.{departed_told}
use Rattle.hn_departed.proofs.laws.departed_are_told.Goals as goal

pub returns : goal.returns
returns c = departed_told
