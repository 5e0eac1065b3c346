use Rattle.hn_assign.proofs.LaterMoments.{advertised_later}
use Rattle.hn_assign.proofs.laws.advertised_of_later.Goals as goal

pub returns : goal.returns
returns c = advertised_later
