use Rattle.hn_assign.proofs.Exists.{advertised_exists}
use Rattle.hn_assign.proofs.laws.advertised_exists.Goals as goal

pub returns : goal.returns
returns c = advertised_exists c.items_or_none.ensures c.items_are_unique.ensures
