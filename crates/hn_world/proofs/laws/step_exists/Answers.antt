use Rattle.hn_world.proofs.Names.{StepExists}
use Rattle.hn_world.proofs.CopiesOfBytes.{replayed_step}
use Rattle.hn_world.proofs.SomeSteps.{some_step}
use Rattle.hn_world.proofs.laws.step_exists.Goals as goal

pub returns : goal.returns
returns c =
    let exists : StepExists = some_step (record { event = c.event_has_a_result.ensures; new = c.new_exists.ensures }) in
    record { sound = exists; replayed = replayed_step exists c.always_sound.ensures.sound c.copies_are_bytes.ensures }
