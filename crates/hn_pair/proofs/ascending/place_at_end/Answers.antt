use Rattle.hn_base.proofs.Names.{◌≡◌, subst, rules, Less}
use Rattle.hn_pair.proofs.Names.{Pair, pair_cmp}
use Rattle.hn_pair.proofs.AroundPair.{place_at_end}
use Rattle.hn_pair.proofs.ascending.place_at_end.Goals as goal

pub returns-in-Some : goal.returns-in-Some
returns-in-Some g c =
    let key = g.T.Paired.pair_of in
    let below : pair_cmp c.pair.result c.args.pair.now ≡ Less = search rules in
    place_at_end key c.args.pair.now c.args.items.now c.in-Some.last.now c.requires (search rules) (subst (λ (p : Pair). pair_cmp p c.args.pair.now ≡ Less) c.pair.ensures below)
