use Rattle.hn_router.proofs.CalmTicks.{restful}
use Rattle.hn_router.proofs.laws.calm_ticks_stay.Goals as goal

pub returns : goal.returns
returns c = restful c.calm_tick.ensures
