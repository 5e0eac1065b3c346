use Rattle.hn_base.proofs.Names.{arith}
use Rattle.hn_base.proofs.NumeralLemmas.{number_below}
use Rattle.hn_base.proofs.ids.NodeId.parse.Goals as goal

pub overflow_cast-result : goal.overflow_cast-result
overflow_cast-result c = omega (arith, number_below 16 8 c.args.digits.now c.in_ok-value.value 8 (omega arith) (omega arith) c.in_ok-value.ensures.found)
