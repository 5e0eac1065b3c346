use Rattle.hn_kept.proofs.DueMoments.{due_soon}
use Rattle.hn_kept.proofs.keeper.Keeper.due.Goals as goal

pub returns-clause-most : goal.returns-clause-most
returns-clause-most c = due_soon c.self.inside.router c.due_at.result c.self.invariant (λ later. (c.due_at.ensures.kept later).1)
