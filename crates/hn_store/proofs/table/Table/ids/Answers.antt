use Rattle.hn_base.proofs.Names.{◌∙◌, map, ap, sym, subst, IsStrictlySortedBy, node_cmp}
use Rattle.hn_store.proofs.Names.{HeldNode}
use Rattle.hn_store.proofs.TableStays.{ascending-ids}
use Rattle.hn_store.proofs.table.Table.ids.Goals as goal

pub returns-clause-ascending : goal.returns-clause-ascending
returns-clause-ascending c =
    let ids = c.from.ensures ∙ c.in_ok-ids.ensures ∙ ap (map (λ (node : HeldNode). node.id)) c.deref.ensures.value in
    subst (IsStrictlySortedBy node_cmp) (sym ids) (ascending-ids c.self.inside.nodes.items c.self.invariant.0.ascending)
