use Rattle.hn_audit.proofs.FrontWorlds.{replayed}
use Rattle.hn_audit.proofs.laws.settled_are_always_sound.Goals as goal

pub returns : goal.returns
returns c w is past future split =
    let (then, leads, _) = c.always_sound.ensures.always w is past future split in
    (then, leads, λ r. c.settled_and_quiet_is_sound.ensures then r (replayed c.at_most_one_world.ensures.trace c.at_most_one_world.ensures.version w.version past then leads))
