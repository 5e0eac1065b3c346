use Rattle.hn_kept.proofs.NothingPreferred.{nothing_preferred}
use Rattle.hn_kept.proofs.laws.nothing_preferred.Goals as goal

pub returns : goal.returns
returns c = nothing_preferred
