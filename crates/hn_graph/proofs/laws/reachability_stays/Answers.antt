use Rattle.hn_graph.proofs.Staying.{reach_stays}
use Rattle.hn_graph.proofs.laws.reachability_stays.Goals as goal

pub returns : goal.returns
returns c = reach_stays
