use Rattle.hn_slot.specs.Room.{FillsRoom, OverflowsRoom}
use Rattle.hn_lab_c.proofs.ToldCopies.{told_so}
use Rattle.hn_lab_c.proofs.copies.tell.Goals as goal

pub returns-clause-copy : goal.returns-clause-copy
returns-clause-copy c =
    let found = c.in-Some-Some in
    λ done. told_so c.args.world.now.parts c.args.number found.info found.bytes.now c.copy_out.result (λ bytes. FillsRoom bytes c.give.new.count c.args.room.now c.give.new.room)
    (rw found.is-0 at c.copy_info.ensures.info) (rw found.is-1 at c.copy_bytes.ensures) c.copy_out.ensures (c.give.ensures.written done)

pub returns-clause-no_room : goal.returns-clause-no_room
returns-clause-no_room c =
    let found = c.in-Some-Some in
    λ two there. told_so c.args.world.now.parts c.args.number found.info found.bytes.now c.copy_out.result (λ bytes. OverflowsRoom bytes c.give.new.count c.args.room.now)
    (rw found.is-0 at c.copy_info.ensures.info) (rw found.is-1 at c.copy_bytes.ensures) c.copy_out.ensures (c.give.ensures.no_room two)
