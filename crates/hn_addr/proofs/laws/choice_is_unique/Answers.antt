use Rattle.hn_addr.proofs.OneChoosing.{one_choosing, one_choice}
use Rattle.hn_addr.proofs.laws.choice_is_unique.Goals as goal

pub returns : goal.returns
returns c = one_choice one_choosing
