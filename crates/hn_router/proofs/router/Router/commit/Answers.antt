use Rattle.hn_router.proofs.Keeping.{kept_until}
use Rattle.hn_router.proofs.router.Router.commit.Goals as goal

pub invariant_of-self : goal.invariant_of-self
invariant_of-self c = kept_until c.plan.inside.state c.plan.invariant
