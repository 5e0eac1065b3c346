use Rattle.hn_pair.proofs.AroundPair.{ascending_nil}
use Rattle.hn_pair.proofs.of_pairs.OfPairs.new.Goals as goal

pub invariant_of-result : goal.invariant_of-result
invariant_of-result g c = rw c.new.ensures.items (ascending_nil g.T.Paired.pair_of)
