use Rattle.hn_departed.proofs.Endpoints.{endpoints_keep}
use Rattle.hn_departed.proofs.laws.endpoints_keep_theirs.Goals as goal

pub returns : goal.returns
returns c = endpoints_keep
