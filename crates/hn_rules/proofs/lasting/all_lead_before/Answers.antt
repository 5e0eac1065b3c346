use Rattle.hn_base.proofs.Names.{List, All, subst, take_all, arith}
use Rattle.hn_rules.proofs.LastsBefore.{Cuts, cut_next}
use Rattle.hn_rules.proofs.Names.{HeldNode}
use Rattle.hn_rules.proofs.RefreshChangesNothing.{LeadsOn}
use Rattle.hn_rules.proofs.lasting.all_lead_before.Goals as goal

pub loop-node-preserved : goal.loop-node-preserved
loop-node-preserved c =
    cut_next c.args.nodes.now c.loop-node.node-index c.node-item.result _ c.args.best c.loop-node.first c.leads_before-first.result c.loop-node-test.true c.node-item.is c.loop-node.invariant
    c.leads_before-first.ensures

pub returns : goal.returns
returns c =
    subst (λ (nodes : List HeldNode). Cuts (λ until. All (LeadsOn until) nodes) c.args.best c.loop-node.first)
    (take_all c.loop-node.node-index c.args.nodes.now (omega (arith, c.loop-node-test.false))) c.loop-node.invariant
