use Rattle.hn_audit.proofs.StayingSteps.{always_stays}
use Rattle.hn_audit.proofs.laws.quiet_homes_always_stay.Goals as goal

pub returns : goal.returns
returns c = always_stays c.at_most_one_world.ensures.trace c.at_most_one_world.ensures.version c.each_event_is_a_step.ensures c.quiet_homes_stay.ensures
