use Rattle.hn_world.proofs.WithinLimits.{router_within}
use Rattle.hn_world.proofs.laws.router_is_within_limits.Goals as goal

pub returns : goal.returns
returns c = router_within
