use Rattle.hn_base.proofs.Names.{take}
use Rattle.hn_deleg.proofs.GreatestLifetimes.{AreTops}
use Rattle.hn_deleg.proofs.greatest.lifetimes.Given as goal

abbrev pub invariant-loop-one : goal.invariant-loop-one
invariant-loop-one l = AreTops (take l.one-index l.list) l.prefix l.valid l.preferred
