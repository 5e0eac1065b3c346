use Rattle.hn_graph.proofs.WhereLinksLead.{AreAcross}
use Rattle.hn_graph.proofs.search.next_places.Given as goal

abbrev pub invariant-loop-link : goal.invariant-loop-link
invariant-loop-link l = AreAcross l.nodes l.node l.link-items l.found l.link-index l.places.items
