use Rattle.hn_base.proofs.Names.{inr}
use Rattle.hn_node.proofs.Taken.{some_taken}
use Rattle.hn_node.proofs.taking.take_at.Goals as goal

pub returns-in-Err-clause-starved : goal.returns-in-Err-clause-starved
returns-in-Err-clause-starved g c = λ _. inr (some_taken _ _ _ _ _ _ c.in-Some.is c.in_ok-count.ensures.taken)
