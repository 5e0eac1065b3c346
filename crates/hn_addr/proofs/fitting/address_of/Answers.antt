use Rattle.hn_base.proofs.Names.{arith}
use Rattle.hn_addr.proofs.NumbersInPrefix.{address_fits}
use Rattle.hn_addr.proofs.fitting.address_of.Goals as goal

pub overflow_add-result : goal.overflow_add-result
overflow_add-result c =
    let fits = address_fits c.args.prefix.now c.args.k c.bits.ensures.valid c.requires in
    let bits = c.bits.ensures.value in
    let k = c.from.ensures in
    omega (arith, fits, bits, k)
