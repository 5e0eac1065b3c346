use Rattle.hn_base.proofs.Names.{◌≤◌, ◌-◌, arith}
use Rattle.hn_prefix.proofs.InsideAndOverlap.{block_fits}
use Rattle.hn_prefix.proofs.prefix.Prefix.last_address.Goals as goal

pub overflow_add-result : goal.overflow_add-result
overflow_add-result c =
    let size : 128 - c.self.inside.len ≤ 128 = omega arith in
    omega (arith, block_fits c.self.inside.bits (128 - c.self.inside.len) 128 size c.self.invariant.bits_in_range c.self.invariant.no_bit_past_len)
