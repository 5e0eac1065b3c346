use Rattle.hn_prefix.proofs.InsideAndOverlap.{overlap_is_nesting_lem}
use Rattle.hn_prefix.proofs.prefix.overlap_is_nesting.Goals as goal

pub returns : goal.returns
returns c = overlap_is_nesting_lem
