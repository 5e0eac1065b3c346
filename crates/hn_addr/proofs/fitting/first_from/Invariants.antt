use Rattle.hn_addr.proofs.FirstFittingNumber.{HasNoneBetween}
use Rattle.hn_addr.proofs.fitting.first_from.Given as goal

abbrev pub invariant-loop-k : goal.invariant-loop-k
invariant-loop-k l = HasNoneBetween l.others l.list l.prefix l.from l.k
