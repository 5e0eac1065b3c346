use Rattle.hn_assign.proofs.LaterMoments.{advertised_unchanged}
use Rattle.hn_assign.proofs.laws.advertised_of_unchanged.Goals as goal

pub returns : goal.returns
returns c = advertised_unchanged
