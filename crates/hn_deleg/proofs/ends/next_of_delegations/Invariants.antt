use Rattle.hn_base.proofs.Names.{take, IsSooner, IsOfElement}
use Rattle.hn_deleg.proofs.Names.{IsDelegationEnd}
use Rattle.hn_deleg.proofs.ends.next_of_delegations.Given as goal

abbrev pub invariant-loop-d : goal.invariant-loop-d
invariant-loop-d l = IsSooner (IsOfElement (IsDelegationEnd l.now l.age) (take l.d-index l.delegations)) l.now l.best l.first
