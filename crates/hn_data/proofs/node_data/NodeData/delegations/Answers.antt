use Rattle.hn_base.proofs.Names.{List, sym, subst, filter_map}
use Rattle.hn_data.proofs.Names.{external_of, IsDelegatedIn, AreInsideInOrder, Delegation}
use Rattle.hn_data.proofs.OneReading.{contains_read}
use Rattle.hn_data.proofs.node_data.NodeData.delegations.Goals as goal

pub returns-clause-exact : goal.returns-clause-exact
returns-clause-exact c d =
    let is = c.kept.ensures.kept in
    contains_read c.args.self.now is.items c.kept.result.now.delegations.items c.as_slice.result.now d (λ items. IsDelegatedIn items d)
    c.as_slice.ensures.value c.kept.ensures.unique is.are (is.says.delegations_are d)

pub returns-clause-in_order : goal.returns-clause-in_order
returns-clause-in_order c =
    let is = c.kept.ensures.kept in
    let subs = filter_map external_of is.items in
    (is.items, is.are, subst (λ (list : List Delegation). AreInsideInOrder subs list) (sym c.as_slice.ensures.value) is.says.delegations_in_order)
