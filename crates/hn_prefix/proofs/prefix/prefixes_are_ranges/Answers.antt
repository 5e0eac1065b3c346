use Rattle.hn_prefix.proofs.InsideAndOverlap.{within_range, overlap_range}
use Rattle.hn_prefix.proofs.prefix.prefixes_are_ranges.Goals as goal

pub returns-clause-within : goal.returns-clause-within
returns-clause-within c = within_range

pub returns-clause-overlap : goal.returns-clause-overlap
returns-clause-overlap c = overlap_range
