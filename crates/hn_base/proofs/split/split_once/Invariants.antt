use Rattle.hn_base.proofs.Names.{take, Lacks}
use Rattle.hn_base.proofs.split.split_once.Given as goal

abbrev pub invariant-loop-i : goal.invariant-loop-i
invariant-loop-i l = Lacks l.byte (take l.i l.text)
