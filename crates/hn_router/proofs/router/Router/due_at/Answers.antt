use Rattle.hn_base.proofs.Names.{◌<◌, subst}
use Rattle.hn_router.proofs.Names.{State, IsNextDue, IsIdleTick}
use Rattle.hn_router.proofs.router.Router.due_at.Goals as goal

pub returns-clause-kept : goal.returns-clause-kept
returns-clause-kept c = subst (λ (s : State). s.moment < c.self.inside.state.due → IsIdleTick s.moment s × IsNextDue s c.self.inside.state.due) c.self.view_is c.self.invariant.kept.due
