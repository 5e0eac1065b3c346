use Rattle.hn_store.proofs.Forgettings.{forgets_none, unlost_stays}
use Rattle.hn_store.proofs.laws.forgetting_leaves.Goals as goal

pub returns-clause-none : goal.returns-clause-none
returns-clause-none c = forgets_none

pub returns-clause-unlost : goal.returns-clause-unlost
returns-clause-unlost c = unlost_stays
