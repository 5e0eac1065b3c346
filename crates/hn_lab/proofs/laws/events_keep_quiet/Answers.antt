use Rattle.hn_lab.proofs.laws.events_keep_quiet.Goals as goal

pub returns : goal.returns
returns c event notes before after replayed happens = c.quiet_homes_stay.ensures _ notes before.world after.world replayed happens.step.step
