use Rattle.hn_dncp.proofs.TickWhenNothingIsDue.{still_later}
use Rattle.hn_dncp.proofs.laws.undue_port_stays.Goals as goal

pub returns : goal.returns
returns c = still_later c.undue_interval_stays.ensures
