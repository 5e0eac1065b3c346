use Rattle.hn_base.proofs.Names.{◌∙◌, get_or, set, sym, ap, map_over_more}
use Rattle.hn_store.proofs.Names.{Option, HeldNode, marked_node, lost_after}
use Rattle.std.specs.Prelude.{ℕ}
use Rattle.hn_store.proofs.loss.mark_each.Goals as goal

pub loop-node-preserved : goal.loop-node-preserved
loop-node-preserved c =
    let i = c.loop-node.node-index in
    let x = c.node-item.result in
    let read = get_or c.loop-node.nodes i x in
    let with_lost = λ (lost : Option ℕ). let node : HeldNode = record read { stored = record read.stored { lost = lost } } in node in
    let lost_is = c.lost_after-node.ensures ∙ ap (λ reachable. lost_after reachable c.args.now read.stored.lost) c.is_among-reachable.ensures in
    let marked_is = ap (λ (node : HeldNode). set c.loop-node.nodes i (marked_node c.args.reach.now c.args.now node)) (sym c.node-item.is) in
    let more = map_over_more (marked_node c.args.reach.now c.args.now) c.args.nodes.now c.loop-node.nodes i x c.loop-node-test.true c.loop-node.invariant c.node-item.is in
    ap (λ lost. set c.loop-node.nodes i (with_lost lost)) lost_is ∙ marked_is ∙ more
