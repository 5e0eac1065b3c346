use Rattle.hn_base.proofs.Names.{string_bytes}
use Rattle.hn_table.proofs.Names.{HeldNode, IsDataText}
use Rattle.hn_table.proofs.Orders.{adds_more}
use Rattle.hn_table.proofs.data_lines.push_all_data.Goals as goal

pub loop-node-preserved : goal.loop-node-preserved
loop-node-preserved c =
    adds_more (λ (node : HeldNode). IsDataText node.id node.stored.body) c.args.nodes.now c.loop-node.node-index c.node-item.result (string_bytes c.args.text.now) (string_bytes c.loop-node.text)
    (string_bytes c.push_data.new.text) c.loop-node-test.true c.node-item.is c.loop-node.invariant c.in_ok-push_data.ensures
