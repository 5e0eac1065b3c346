use Rattle.hn_base.proofs.Names.{List, subst, take_all}
use Rattle.hn_data.specs.declared.view.Entry.{Entry}
use Rattle.hn_assign.specs.Changed.{HasNodeOf, AreTold}
use Rattle.hn_assign.proofs.ChangedNodes.{told_none, told_more}
use Rattle.hn_assign.proofs.changed.add_gone.Goals as goal

pub loop-was-init : goal.loop-was-init
loop-was-init c = told_none (HasNodeOf c.args.after.now) c.args.ids.now.items

pub loop-was-preserved : goal.loop-was-preserved
loop-was-preserved c =
    told_more (HasNodeOf c.args.after.now) c.args.before.now c.loop-was.was-index c.was-item.result c.args.ids.now.items c.loop-was.ids.items c.add_if_gone.new.ids.items
    c.loop-was-test.true c.was-item.is c.loop-was.invariant c.in_ok-add_if_gone.ensures

pub returns : goal.returns
returns c =
    subst (λ (nodes : List Entry). AreTold (HasNodeOf c.args.after.now) nodes c.args.ids.now.items c.loop-was.ids.items)
    (take_all c.loop-was.was-index c.args.before.now c.loop-was-test.false) c.loop-was.invariant
