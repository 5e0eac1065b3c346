use Rattle.hn_addr.proofs.OneChoosing.{one_choosing}
use Rattle.hn_addr.proofs.laws.choosing_is_unique.Goals as goal

pub returns : goal.returns
returns c = one_choosing
