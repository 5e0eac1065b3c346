use Rattle.hn_rules.proofs.Routers.{makes_router}
use Rattle.hn_rules.proofs.laws.refresh_makes_a_router.Goals as goal

pub returns : goal.returns
returns c = makes_router c.changes_keep_the_rest.ensures
