use Rattle.hn_base.proofs.Names.{◌∙◌, get_or, sym, eqb-true}
use Rattle.hn_store.proofs.NodePlaces.{stands-at}
use Rattle.hn_store.proofs.place.near.Goals as goal

pub returns-then-eq-clause-found : goal.returns-then-eq-clause-found
returns-then-eq-clause-found c =
    let x = c.index-nodes-place.result in
    stands-at c.args.nodes.now c.args.id.0 c.args.place x c.requires c.if-place-nodes.true
    (eqb-true (get_or c.args.nodes.now c.args.place x).id.0 c.args.id.0 (sym c.eq.ensures ∙ c.if-eq.true))
