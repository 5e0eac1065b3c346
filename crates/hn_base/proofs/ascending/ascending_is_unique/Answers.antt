use Rattle.hn_base.proofs.AscendingLists.{ascending_unique}
use Rattle.hn_base.proofs.ascending.ascending_is_unique.Goals as goal

pub returns : goal.returns
returns g c = ascending_unique g.T.Ord.cmp g.met.T.Ord.total
