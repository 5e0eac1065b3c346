use Rattle.hn_base.proofs.Names.{take}
use Rattle.hn_addr.proofs.Names.{IsLeastFound}
use Rattle.hn_addr.proofs.stays.least_own.Given as goal

abbrev pub invariant-loop-a : goal.invariant-loop-a
invariant-loop-a l = IsLeastFound (take l.a-index l.own) l.c l.least
