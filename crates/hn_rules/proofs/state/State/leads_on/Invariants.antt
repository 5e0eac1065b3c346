use Rattle.hn_base.proofs.Names.{take, All}
use Rattle.hn_rules.proofs.RefreshChangesNothing.{LeadsOn}
use Rattle.hn_rules.proofs.state.State.leads_on.Given as goal

abbrev pub invariant-loop-node : goal.invariant-loop-node
invariant-loop-node l = All (LeadsOn l.now) (take l.node-index l.node-items)
