use Rattle.hn_look.proofs.Replays.{one_log}
use Rattle.hn_look.proofs.log.at_most_one_log.Goals as goal

pub returns : goal.returns
returns c = one_log c.step_is_unique.ensures
