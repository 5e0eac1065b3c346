use Rattle.hn_base.proofs.Names.{rules, answers_always}
use Rattle.hn_store.proofs.Names.{HeldNode}
use Rattle.hn_store.proofs.NodePlaces.{searched}
use Rattle.hn_store.proofs.place.place_of.Goals as goal

pub returns-clause-found : goal.returns-clause-found
returns-clause-found c =
    let position = c.binary_search_by_key.ensures.position (λ (n : HeldNode). n.id) (answers_always _ _ _ (λ f a r q k. search rules)) in
    (searched c.args.nodes.now c.args.id.0 c.binary_search_by_key.result c.requires c.binary_search_by_key.ensures.bound position).0

pub returns-clause-absent : goal.returns-clause-absent
returns-clause-absent c =
    let position = c.binary_search_by_key.ensures.position (λ (n : HeldNode). n.id) (answers_always _ _ _ (λ f a r q k. search rules)) in
    (searched c.args.nodes.now c.args.id.0 c.binary_search_by_key.result c.requires c.binary_search_by_key.ensures.bound position).1
