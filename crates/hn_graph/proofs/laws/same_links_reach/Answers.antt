use Rattle.hn_graph.proofs.Staying as staying
use Rattle.hn_graph.proofs.laws.same_links_reach.Goals as goal

pub returns : goal.returns
returns c = staying.same_links_reach
