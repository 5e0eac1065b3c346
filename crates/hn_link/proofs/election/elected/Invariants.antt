use Rattle.hn_link.proofs.Names.{plain_view, IsBestRank}
use Rattle.hn_link.proofs.Candidates.{RanksBefore}
use Rattle.hn_link.proofs.election.elected.Given as goal

abbrev pub invariant-loop-node : goal.invariant-loop-node
invariant-loop-node l = IsBestRank (RanksBefore (plain_view l.view) l.letter l.common l.node-index) l.best
