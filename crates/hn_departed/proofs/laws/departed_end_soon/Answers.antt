use Rattle.hn_departed.proofs.EndSoon.{departed_end_soon}
use Rattle.hn_departed.proofs.laws.departed_end_soon.Goals as goal

pub returns : goal.returns
returns c = departed_end_soon
