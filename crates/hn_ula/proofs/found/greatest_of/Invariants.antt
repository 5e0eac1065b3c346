use Rattle.hn_base.proofs.Names.{take}
use Rattle.hn_ula.proofs.Names.{IsGreatestFound}
use Rattle.hn_ula.proofs.found.greatest_of.Given as goal

abbrev pub invariant-loop-one : goal.invariant-loop-one
invariant-loop-one l = IsGreatestFound (take l.one-index l.list) l.node l.greatest
