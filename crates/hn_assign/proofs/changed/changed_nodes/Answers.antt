use Rattle.hn_base.proofs.Names.{List, Contains, sym, subst, Contains-push}
use Rattle.hn_base.specs.declared.ids.NodeId.{NodeId}
use Rattle.hn_assign.specs.Changed.{AreChanged}
use Rattle.hn_assign.proofs.ChangedNodes.{all_told}
use Rattle.hn_assign.proofs.changed.changed_nodes.Goals as goal

pub returns-clause-those : goal.returns-clause-those
returns-clause-those c =
    subst (λ (ids : List NodeId). AreChanged c.args.own c.args.before.now c.args.after.now ids) (sym c.from.ensures)
    (all_told c.args.own c.args.before.now c.args.after.now _ _ _ _
    (subst (λ (ids : List NodeId). Contains ids c.args.own) (sym c.in_ok-push.ensures.items) (Contains-push _ c.args.own))
    c.in_ok-add_gone.ensures c.in_ok-add_others.ensures c.sort_to_set.ensures.same)
