use Rattle.hn_ula.proofs.OneDecision.{one_decision}
use Rattle.hn_ula.proofs.laws.decision_is_unique.Goals as goal

pub returns : goal.returns
returns c = one_decision
