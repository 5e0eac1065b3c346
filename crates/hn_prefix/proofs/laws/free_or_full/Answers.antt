use Rattle.hn_prefix.proofs.FreeOrFull.{free_or_full}
use Rattle.hn_prefix.proofs.laws.free_or_full.Goals as goal

pub returns : goal.returns
returns c = free_or_full
