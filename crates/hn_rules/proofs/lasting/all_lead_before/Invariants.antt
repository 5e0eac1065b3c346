use Rattle.hn_base.proofs.Names.{take, All}
use Rattle.hn_rules.proofs.LastsBefore.{Cuts}
use Rattle.hn_rules.proofs.RefreshChangesNothing.{LeadsOn}
use Rattle.hn_rules.proofs.lasting.all_lead_before.Given as goal

abbrev pub invariant-loop-node : goal.invariant-loop-node
invariant-loop-node l = Cuts (λ until. All (LeadsOn until) (take l.node-index l.nodes)) l.best l.first
