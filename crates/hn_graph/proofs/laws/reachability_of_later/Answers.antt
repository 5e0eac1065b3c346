use Rattle.hn_graph.proofs.LaterReach.{reach_of_later}
use Rattle.hn_graph.proofs.laws.reachability_of_later.Goals as goal

pub returns : goal.returns
returns c = reach_of_later
