use Rattle.hn_ula.proofs.SomeDecisions.{some_decision}
use Rattle.hn_ula.proofs.laws.decision_exists.Goals as goal

pub returns : goal.returns
returns c = some_decision
