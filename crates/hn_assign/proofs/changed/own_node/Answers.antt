use Rattle.hn_base.proofs.Names.{List, [], ◌∷◌, ◌++◌, ◌∙◌, sym, ap, subst, IsStrictlySortedBy, node_cmp}
use Rattle.hn_base.specs.declared.ids.NodeId.{NodeId}
use Rattle.hn_assign.proofs.ChangedNodes.{one_ascends}
use Rattle.hn_assign.proofs.changed.own_node.Goals as goal

pub returns-clause-those : goal.returns-clause-those
returns-clause-those c = c.from.ensures ∙ c.in_ok-push.ensures.items ∙ ap (λ (ids : List NodeId). ids ++ c.args.own ∷ []) c.new-ids.ensures.items

pub returns-clause-ascending : goal.returns-clause-ascending
returns-clause-ascending c = subst (λ (ids : List NodeId). IsStrictlySortedBy node_cmp ids) (sym (returns-clause-those c)) (one_ascends c.args.own)
