use Rattle.hn_graph.proofs.Names.{ids_of}
use Rattle.hn_graph.proofs.Gaps.{none_there}
use Rattle.hn_graph.proofs.search.is_gap.Goals as goal

pub returns-then-are_below : goal.returns-then-are_below
returns-then-are_below c above = none_there (ids_of c.args.nodes.now) c.args.place c.args.id.0 (c.are_below.ensures c.if-are_below.true) (c.are_above.ensures above)
