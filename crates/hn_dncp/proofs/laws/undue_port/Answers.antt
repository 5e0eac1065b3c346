use Rattle.hn_dncp.proofs.TickWhenNothingIsDue.{undue_is_idle}
use Rattle.hn_dncp.proofs.laws.undue_port.Goals as goal

pub returns : goal.returns
returns c = undue_is_idle
