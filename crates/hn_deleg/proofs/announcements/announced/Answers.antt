use Rattle.hn_base.proofs.Names.{◌≡◌, ◌↔◌, subst, refl, List, length, Contains, Some, slice_get, take_all, slice_get_read}
use Rattle.hn_deleg.proofs.Names.{Entry, IsLiveIn}
use Rattle.hn_deleg.proofs.Live.{live_more_at}
use Rattle.hn_deleg.proofs.announcements.announced.Goals as goal

pub loop-node-preserved : goal.loop-node-preserved
loop-node-preserved c =
    let nodes = c.args.nodes.now in
    let n = c.loop-node.node-index in
    let at : slice_get nodes n ≡ Some c.node-item.result = slice_get_read nodes (length nodes) n c.node-item.result refl c.loop-node-test.true c.node-item.is in (
      live_more_at nodes n c.node-item.result c.loop-node.list.items c.add_node.new.list.items at c.loop-node.invariant.0 c.in_ok-add_node.ensures.added,
      c.in_ok-add_node.ensures.valid c.loop-node.invariant.1,
    )

pub returns-clause-exact : goal.returns-clause-exact
returns-clause-exact c u =
    subst (λ (seen : List Entry). Contains c.loop-node.list.items u ↔ IsLiveIn seen u) (take_all c.loop-node.node-index c.args.nodes.now c.loop-node-test.false) (c.loop-node.invariant.0 u)
