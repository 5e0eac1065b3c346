use Rattle.hn_base.proofs.Names.{IsTrue, subst, sym}
use Rattle.hn_pair.proofs.Names.{wish_pair}
use Rattle.hn_pair.proofs.AroundPair.{found_where}
use Rattle.hn_pair.proofs.ascending.is_wished.Goals as goal

pub returns : goal.returns
returns c =
    let found = found_where wish_pair c.args.pair.now c.args.wishes.now c.place_near.result c.place_near.ensures c.requires in
    (λ t. found.0 (subst IsTrue c.is_ok.ensures.value t), λ h. subst IsTrue (sym c.is_ok.ensures.value) (found.1 h))
