use Rattle.hn_base.proofs.Names.{take, IsSooner, IsOfElement}
use Rattle.hn_pair.proofs.Names.{IsBackoffDue}
use Rattle.hn_pair.proofs.due.first_due.Given as goal

abbrev pub invariant-loop-b : goal.invariant-loop-b
invariant-loop-b l = IsSooner (IsOfElement IsBackoffDue (take l.b-index l.backoffs)) l.now l.best l.first
