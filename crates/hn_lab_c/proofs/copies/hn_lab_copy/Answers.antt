use Rattle.hn_base.proofs.Names.{◌≡◌, List, ℕ, None}
use Rattle.std.specs.Prelude.{◌≢◌}
use Rattle.hn_slot.specs.Room.{FillsRoom, OverflowsRoom}
use Rattle.hn_world.specs.Refusal.{copy_at}
use Rattle.hn_world.specs.declared.parts.Parts.{Parts}
use Rattle.hn_lab_c.specs.Looks.{IsCopyOut}
use Rattle.hn_lab_c.proofs.Played.{of_world}
use Rattle.hn_lab_c.proofs.copies.hn_lab_copy.Goals as goal

pub returns-clause-copy : goal.returns-clause-copy
returns-clause-copy c =
    let status = c.tell-status in
    let Told : Parts → Type 0 = λ w. IsCopyOut w c.args.number (λ bytes. FillsRoom bytes status.new.count c.args.room.now status.new.room) status.new.out in
    λ done. of_world c.in-Some.play.value c.deref.result.now c.world.result.now.parts c.in-Some.ensures.taken c.deref.ensures c.world.ensures Told (status.ensures.copy done)

pub returns-clause-no_room : goal.returns-clause-no_room
returns-clause-no_room c =
    let status = c.tell-status in
    let Told : Parts → Type 0 = λ w. copy_at w c.args.number ≢ None → IsCopyOut w c.args.number (λ bytes. OverflowsRoom bytes status.new.count c.args.room.now) status.new.out in
    λ two. of_world c.in-Some.play.value c.deref.result.now c.world.result.now.parts c.in-Some.ensures.taken c.deref.ensures c.world.ensures Told (status.ensures.no_room two)
