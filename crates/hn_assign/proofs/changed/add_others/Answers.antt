use Rattle.hn_base.proofs.Names.{List, subst, take_all}
use Rattle.hn_data.specs.declared.view.Entry.{Entry}
use Rattle.hn_assign.specs.Changed.{SaidSame, AreTold}
use Rattle.hn_assign.proofs.ChangedNodes.{told_none, told_more}
use Rattle.hn_assign.proofs.changed.add_others.Goals as goal

pub loop-node-init : goal.loop-node-init
loop-node-init c = told_none (SaidSame c.args.before.now) c.args.ids.now.items

pub loop-node-preserved : goal.loop-node-preserved
loop-node-preserved c =
    told_more (SaidSame c.args.before.now) c.args.after.now c.loop-node.node-index c.node-item.result c.args.ids.now.items c.loop-node.ids.items c.add_if_other.new.ids.items
    c.loop-node-test.true c.node-item.is c.loop-node.invariant c.in_ok-add_if_other.ensures

pub returns : goal.returns
returns c =
    subst (λ (nodes : List Entry). AreTold (SaidSame c.args.before.now) nodes c.args.ids.now.items c.loop-node.ids.items)
    (take_all c.loop-node.node-index c.args.after.now c.loop-node-test.false) c.loop-node.invariant
