use Rattle.hn_base.proofs.Names.{take}
use Rattle.hn_deleg.proofs.Filtered.{IsFiltered}
use Rattle.hn_deleg.proofs.nesting.outermost.Given as goal

abbrev pub invariant-loop-p : goal.invariant-loop-p
invariant-loop-p l = IsFiltered (take l.p-index l.ascending) l.kept.items
