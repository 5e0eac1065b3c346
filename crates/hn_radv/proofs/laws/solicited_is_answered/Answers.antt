use Rattle.hn_radv.proofs.SpacedAndAnswered.{answered_then}
use Rattle.hn_radv.proofs.laws.solicited_is_answered.Goals as goal

pub returns : goal.returns
returns c = answered_then
