use Rattle.hn_audit.proofs.FrontWorlds.{replayed}
use Rattle.hn_audit.proofs.laws.calm_homes_always_stay.Goals as goal

pub returns : goal.returns
returns c w is past future split =
    let (then, leads, _) = c.always_sound.ensures.always w is past future split in
    (then, leads, c.calm_comes_and_lasts.ensures.lasts then (replayed c.at_most_one_world.ensures.trace c.at_most_one_world.ensures.version w.version past then leads))
