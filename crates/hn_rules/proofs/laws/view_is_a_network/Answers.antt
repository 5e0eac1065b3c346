use Rattle.hn_rules.proofs.LawViews.{view_network}
use Rattle.hn_rules.proofs.laws.view_is_a_network.Goals as goal

pub returns : goal.returns
returns c = view_network c.own_is_reachable.ensures
