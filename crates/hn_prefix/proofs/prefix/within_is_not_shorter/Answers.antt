use Rattle.hn_prefix.proofs.InsideAndOverlap.{not_shorter}
use Rattle.hn_prefix.proofs.prefix.within_is_not_shorter.Goals as goal

pub returns : goal.returns
returns c = not_shorter
