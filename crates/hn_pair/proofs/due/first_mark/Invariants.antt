use Rattle.hn_base.proofs.Names.{take, IsSooner, IsOfElement}
use Rattle.hn_pair.proofs.Names.{IsMarkDue}
use Rattle.hn_pair.proofs.due.first_mark.Given as goal

abbrev pub invariant-loop-c : goal.invariant-loop-c
invariant-loop-c l = IsSooner (IsOfElement IsMarkDue (take l.c-index l.assigned)) l.now l.best l.first
