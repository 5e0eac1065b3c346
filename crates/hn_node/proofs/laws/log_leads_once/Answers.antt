use Rattle.hn_node.proofs.Logs.{leads_once}
use Rattle.hn_node.proofs.laws.log_leads_once.Goals as goal

pub returns : goal.returns
returns c = leads_once c.one_result.ensures
