use Rattle.hn_base.proofs.Names.{not, rules, tests, ◌==◌, on, filter_same, IsStrictlySortedBy-filter}
use Rattle.hn_pair.proofs.Names.{pair_cmp}
use Rattle.hn_pair.proofs.of_pairs.OfPairs.remove.Goals as goal

pub invariant_of-self : goal.invariant_of-self
invariant_of-self g c =
    let key = g.T.Paired.pair_of in
    let kept = filter_same _ (λ x. not ((key x).endpoint.0 == c.args.at.0)) _ (λ x b f k. search (rules, tests)) _ _ c.retain.ensures.filtered in
    rw kept (IsStrictlySortedBy-filter (on key pair_cmp) (λ x. not ((key x).endpoint.0 == c.args.at.0)) c.self.inside.items.items c.self.invariant)

pub returns : goal.returns
returns g c =
    let key = g.T.Paired.pair_of in
    rw (← c.self.view_is) (filter_same _ (λ x. not ((key x).endpoint.0 == c.args.at.0)) _ (λ x b f k. search (rules, tests)) _ _ c.retain.ensures.filtered)
