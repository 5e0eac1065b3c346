use Rattle.hn_own.proofs.OwnDataMade.{own_data_made}
use Rattle.hn_own.proofs.laws.own_data_exists.Goals as goal

pub returns : goal.returns
returns c = own_data_made
