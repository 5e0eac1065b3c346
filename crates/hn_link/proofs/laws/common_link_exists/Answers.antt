use Rattle.hn_link.proofs.Exists.{common_exists}
use Rattle.hn_link.proofs.laws.common_link_exists.Goals as goal

pub returns : goal.returns
returns c = common_exists c.items_or_none.ensures c.items_are_unique.ensures
