use Rattle.hn_base.proofs.Names.{◌≤◌, ◌^◌, arith, pow-le-pow_right}
use Rattle.hn_prefix.proofs.groups.address.Goals as goal

pub overflow_mul-address : goal.overflow_mul-address
overflow_mul-address c =
    let le : 65536 ^ c.loop-group.group-index ≤ 65536 ^ 7 = pow-le-pow_right (omega arith) {j = 7} (omega arith) in
    let fits = c.loop-group.invariant.fits in
    omega arith
