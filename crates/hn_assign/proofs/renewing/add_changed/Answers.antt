use Rattle.hn_base.proofs.Names.{◌↔◌, ◌⊎◌, List, Contains, subst, take_all}
use Rattle.hn_assign.proofs.Names.{Entry}
use Rattle.hn_assign.specs.Renewed.{IsOfChanged}
use Rattle.hn_assign.proofs.GrownByEach.{Of, grown_none, grown_more}
use Rattle.hn_assign.proofs.renewing.add_changed.Goals as goal

pub loop-node-init : goal.loop-node-init
loop-node-init c = grown_none (IsOfChanged c.args.own.0 c.args.changed.now) c.args.items.now.items

pub loop-node-preserved : goal.loop-node-preserved
loop-node-preserved c =
    grown_more (IsOfChanged c.args.own.0 c.args.changed.now) c.args.items.now.items c.loop-node.items.items c.add_if_changed.new.items.items c.args.nodes.now c.loop-node.node-index
    c.node-item.result c.loop-node-test.true c.node-item.is c.loop-node.invariant c.in_ok-add_if_changed.ensures

pub returns : goal.returns
returns c a =
    subst (λ (seen : List Entry). Contains c.loop-node.items.items a ↔ (Contains c.args.items.now.items a ⊎ Of (IsOfChanged c.args.own.0 c.args.changed.now) seen a))
    (take_all c.loop-node.node-index c.args.nodes.now c.loop-node-test.false) (c.loop-node.invariant a)
