use Rattle.hn_base.proofs.Names.{ℕ, ◌≤◌, ◌++◌, length, take, arith, length-append}
use Rattle.std.proofs.Common.{length-take}
use Rattle.std.proofs.KnownBytes.{Consumes-trans}
use Rattle.hn_streams.proofs.input.read_all.Goals as goal

pub returns-then-is_err-clause-bounded : goal.returns-then-is_err-clause-bounded
returns-then-is_err-clause-bounded g c =
    let old = c.loop-buf.bytes.items in
    let more = take c.in_ok-count.count c.read.new.buf in
    let room : length c.read.new.buf ≤ c.min-room.result = omega (arith, c.read.auto.buf, length-take {A = ℕ}) in (
      old ++ more,
      omega (arith, length-append old more, length-take c.in_ok-count.count c.read.new.buf, room, c.loop-buf.bytes.ok.0),
      Consumes-trans _ _ _ old more c.loop-buf.invariant.read c.in_ok-count.ensures.bytes,
    )
