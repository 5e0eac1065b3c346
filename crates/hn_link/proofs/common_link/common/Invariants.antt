use Rattle.hn_link.proofs.Joined.{AreJoined}
use Rattle.hn_link.proofs.common_link.common.Given as goal

abbrev pub invariant-loop-link : goal.invariant-loop-link
invariant-loop-link l = AreJoined l.view.nodes.now l.own l.fn.e.0 l.link-items l.link-index (l.view.own, l.fn.e) l.endpoints.items
