use Rattle.hn_base.proofs.Names.{take}
use Rattle.hn_prefix.proofs.Names.{HasNoGap}
use Rattle.hn_prefix.proofs.gap.split_at_gap.Given as goal

abbrev pub invariant-loop-i : goal.invariant-loop-i
invariant-loop-i l = HasNoGap (take l.i l.text)
