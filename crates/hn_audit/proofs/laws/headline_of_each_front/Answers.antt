use Rattle.hn_world.specs.Leaves.{EqualHashesAgree}
use Rattle.hn_audit.specs.Laws.{SettledAreSoundByRules}
use Rattle.hn_audit.proofs.FrontWorlds.{front_has_it}
use Rattle.hn_audit.proofs.laws.headline_of_each_front.Goals as goal

pub returns-clause-sound : goal.returns-clause-sound
returns-clause-sound c = front_has_it c.at_most_one_world.ensures.trace c.at_most_one_world.ensures.version SettledAreSoundByRules

pub returns-clause-agree : goal.returns-clause-agree
returns-clause-agree c = front_has_it c.at_most_one_world.ensures.trace c.at_most_one_world.ensures.version EqualHashesAgree
