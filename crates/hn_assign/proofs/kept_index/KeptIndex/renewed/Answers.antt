use Rattle.std.proofs.Common.{◌∙◌, List, subst, sym}
use Rattle.std.specs.List.Sorted.{IsStrictlySortedBy}
use Rattle.std.specs.Ordering.{nat_cmp}
use Rattle.hn_base.specs.declared.ids.NodeId.{NodeId}
use Rattle.hn_data.specs.View.{ids_of}
use Rattle.hn_data.specs.declared.view.Entry.{Entry}
use Rattle.hn_assign.specs.Changed.{AreChanged}
use Rattle.hn_assign.specs.Renewed.{HasOfOthers, HasOfUnchanged}
use Rattle.hn_assign.specs.declared.advertised.Advertised.{Advertised}
use Rattle.hn_assign.proofs.Renewals.{has_of_others, of_unchanged}
use Rattle.hn_assign.proofs.kept_index.KeptIndex.renewed.Goals as goal

pub changed_nodes-requires-clause-before : goal.changed_nodes-requires-clause-before
changed_nodes-requires-clause-before c = subst (λ (nodes : List Entry). IsStrictlySortedBy nat_cmp (ids_of nodes)) (sym c.deref.ensures.value) c.self.invariant.ascending

pub renewed-requires-clause-known : goal.renewed-requires-clause-known
renewed-requires-clause-known c =
    let own = c.self.inside.own in
    let nodes = c.self.inside.nodes.items in
    let view = c.args.view.now in
    let same = c.is_same.ensures c.if-is_same.true in
    let before : HasOfOthers own.0 nodes c.self.inside.index =
    has_of_others (record { own = own.0; now = 0; nodes = nodes }) c.self.inside.assigned.items c.self.inside.index c.self.invariant.advertised in
    let has : HasOfOthers view.own.0 nodes c.self.inside.index = subst (λ (id : NodeId). HasOfOthers id.0 nodes c.self.inside.index) same before in
    let are : AreChanged view.own nodes view.nodes.now c.in_ok-changed.changed =
    subst (λ (xs : List Entry). AreChanged view.own xs view.nodes.now c.in_ok-changed.changed) c.deref.ensures.value c.in_ok-changed.ensures.those in
    subst (λ (known : List Advertised). HasOfUnchanged view.own.0 view.nodes.now c.in_ok-changed.changed known) (sym (c.as_slice.ensures ∙ c.get-known.ensures))
    (of_unchanged view.own nodes view.nodes.now c.in_ok-changed.changed c.self.inside.index c.self.invariant.ascending has are)
