use Rattle.hn_own.proofs.LifetimesEnd.{none_ends}
use Rattle.hn_own.proofs.laws.ending_leaves.Goals as goal

pub returns : goal.returns
returns c = none_ends
