use Rattle.hn_world.proofs.OneMoreEvent.{each_step}
use Rattle.hn_world.proofs.laws.each_event_is_a_step.Goals as goal

pub returns : goal.returns
returns c = each_step
