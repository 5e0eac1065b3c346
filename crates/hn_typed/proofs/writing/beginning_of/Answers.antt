use Rattle.hn_base.proofs.Names.{arith}
use Rattle.hn_typed.proofs.writing.beginning_of.Goals as goal

pub returns-in-NodeState-clause-in_range : goal.returns-in-NodeState-clause-in_range
returns-in-NodeState-clause-in_range c = rw c.in-NodeState.is (λ p. (omega arith, (omega arith, (omega arith, c.hash-in-NodeState.ensures.valid))))

pub returns-in-Delegated-clause-in_range : goal.returns-in-Delegated-clause-in_range
returns-in-Delegated-clause-in_range c = rw c.in-Delegated.is (λ p. (omega arith, (omega arith, c.prefix.ensures.valid)))

pub returns-in-Assigned-clause-in_range : goal.returns-in-Assigned-clause-in_range
returns-in-Assigned-clause-in_range c = rw c.in-Assigned.is (λ p. (omega arith, (p, c.prefix-in-Assigned.ensures.valid)))
