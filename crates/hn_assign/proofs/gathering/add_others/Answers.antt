use Rattle.hn_base.proofs.Names.{◌↔◌, ◌⊎◌, List, Contains, subst, take_all}
use Rattle.hn_assign.proofs.Names.{Entry, IsOfOther}
use Rattle.hn_assign.proofs.GrownByEach.{Of, grown_more}
use Rattle.hn_assign.proofs.gathering.add_others.Goals as goal

pub loop-node-preserved : goal.loop-node-preserved
loop-node-preserved c =
    grown_more (IsOfOther c.args.own.0) c.args.items.now.items c.loop-node.items.items c.add_other.new.items.items c.args.nodes.now c.loop-node.node-index
    c.node-item.result c.loop-node-test.true c.node-item.is c.loop-node.invariant c.in_ok-add_other.ensures

pub returns : goal.returns
returns c a =
    subst (λ (seen : List Entry). Contains c.loop-node.items.items a ↔ (Contains c.args.items.now.items a ⊎ Of (IsOfOther c.args.own.0) seen a))
    (take_all c.loop-node.node-index c.args.nodes.now c.loop-node-test.false) (c.loop-node.invariant a)
