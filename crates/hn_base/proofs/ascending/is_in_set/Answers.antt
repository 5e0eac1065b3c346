use Rattle.hn_base.proofs.AscendingLists.{found}
use Rattle.hn_base.proofs.ascending.is_in_set.Goals as goal

pub returns : goal.returns
returns g c =
    let searched = c.binary_search.ensures in
    rw c.is_ok.ensures.value (found g.T.Ord.cmp g.met.T.Ord.total c.requires.exact c.args.set.now c.args.x.now c.binary_search.result c.requires.ascending searched.bound searched.position)
