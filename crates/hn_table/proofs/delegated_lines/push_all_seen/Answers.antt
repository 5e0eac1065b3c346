use Rattle.hn_base.proofs.Names.{string_bytes}
use Rattle.hn_table.proofs.Names.{plain_view, AreSeenLines}
use Rattle.hn_table.proofs.Orders.{adds_more}
use Rattle.hn_table.proofs.delegated_lines.push_all_seen.Goals as goal

pub loop-node-preserved : goal.loop-node-preserved
loop-node-preserved c =
    adds_more (AreSeenLines (plain_view c.args.view.now) c.args.used.now) c.args.view.now.nodes.now c.loop-node.node-index c.node-item.result (string_bytes c.args.text.now)
    (string_bytes c.loop-node.text) (string_bytes c.push_seen.new.text) c.loop-node-test.true c.node-item.is c.loop-node.invariant c.in_ok-push_seen.ensures
