use Rattle.hn_base.proofs.Names.{List, length, map, sym, ap, subst, ◌≡◌, ◌∙◌, length-map}
use Rattle.hn_store.proofs.Names.{HeldNode, IsTable, marked_node, AreAgesUndueBefore}
use Rattle.hn_store.proofs.AgesOfNodes.{ages_marked}
use Rattle.hn_store.proofs.Losses.{IsTable-marked, whole_write}
use Rattle.hn_store.proofs.table.Table.mark.Goals as goal

pub invariant_of-self : goal.invariant_of-self
invariant_of-self c =
    let marked_is : c.mark_each.new.nodes ≡ map (marked_node c.args.reach.now c.args.now) c.self.inside.nodes.items =
    c.mark_each.ensures ∙ ap (map (marked_node c.args.reach.now c.args.now)) c.deref_mut.ensures.value in
    let all = ap length c.deref_mut.ensures.value in
    let whole = whole_write c.self.inside.nodes.items c.mark_each.new.nodes c.self.inside.nodes.len
    (ap length marked_is ∙ length-map c.self.inside.nodes.items (marked_node c.args.reach.now c.args.now)) (sym c.deref_mut.ensures.len ∙ all) in
    let xs = c.self.inside.nodes.items in
    subst (λ (nodes : List HeldNode). IsTable (record { limit = c.self.inside.limit; entries = nodes }) × AreAgesUndueBefore c.self.inside.young nodes) (sym (whole ∙ marked_is))
    (IsTable-marked c.self.inside.limit c.args.reach.now c.args.now xs c.self.invariant.0, ages_marked c.self.inside.young c.args.reach.now c.args.now xs c.self.invariant.1)
