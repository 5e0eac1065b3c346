use Rattle.hn_base.proofs.Names.{◌-◌, ◌/◌, ◌^◌, ◌<◌, arith, pow_below, div_below}
use Rattle.hn_prefix.proofs.free.next_place.Goals as goal

pub overflow_add-place_of : goal.overflow_add-place_of
overflow_add-place_of c =
    let at_least_two : 2 ^ 0 < 2 ^ (128 - c.args.len) = pow_below 0 (128 - c.args.len) (omega arith) in
    let half : (c.args.address - c.args.outer.now.bits) / 2 ^ (128 - c.args.len) < 2 ^ 127 =
    div_below (c.args.address - c.args.outer.now.bits) (2 ^ (128 - c.args.len)) (2 ^ 127) (omega arith) (omega arith) in
    omega arith
