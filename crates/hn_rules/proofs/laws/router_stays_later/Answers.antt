use Rattle.hn_rules.proofs.Routers.{stays_later}
use Rattle.hn_rules.proofs.laws.router_stays_later.Goals as goal

pub returns : goal.returns
returns c = stays_later
