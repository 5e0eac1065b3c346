use Rattle.hn_deleg.proofs.LaterUsable.{ends_later}
use Rattle.hn_deleg.proofs.laws.ends_of_later.Goals as goal

pub returns : goal.returns
returns c = ends_later
