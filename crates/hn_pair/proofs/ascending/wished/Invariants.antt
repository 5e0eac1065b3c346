use Rattle.hn_pair.proofs.Keeping.{IsKeeping}
use Rattle.hn_pair.proofs.ascending.wished.Given as goal

abbrev pub invariant-loop-x : goal.invariant-loop-x
invariant-loop-x g l = IsKeeping g.T.Paired.pair_of l.wishes l.items l.x-index l.kept.items
