use Rattle.hn_base.proofs.Names.{rules, answers_always}
use Rattle.hn_pair.proofs.AroundPair.{place_from_search}
use Rattle.hn_pair.proofs.ascending.place_of.Goals as goal

pub returns : goal.returns
returns g c =
    let by_pair = c.binary_search_by_key.ensures.position g.T.Paired.pair_of (answers_always _ _ _ (λ f a r f' called. search rules)) in
    place_from_search g.T.Paired.pair_of c.args.pair.now c.args.items.now c.binary_search_by_key.result c.requires c.binary_search_by_key.ensures.bound by_pair
