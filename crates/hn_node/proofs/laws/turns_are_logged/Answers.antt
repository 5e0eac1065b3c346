use Rattle.hn_node.proofs.Logs.{turns_logged}
use Rattle.hn_node.proofs.laws.turns_are_logged.Goals as goal

pub returns : goal.returns
returns c = turns_logged
