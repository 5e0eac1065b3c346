use Rattle.hn_graph.proofs.Following.{reach_follows}
use Rattle.hn_graph.proofs.laws.reachability_follows.Goals as goal

pub returns : goal.returns
returns c = reach_follows
