use Rattle.hn_base.proofs.Names.{refl}
use Rattle.hn_sound.proofs.Names.{IsHome, IsHomeAtRest}
use Rattle.hn_sound.specs.Worked.{worked}
use Rattle.hn_sound.proofs.HomeTests.{home_from, each_pair_from}
use Rattle.hn_sound.proofs.RestTests.{is_at_rest, at_rest_from}
use Rattle.hn_sound.proofs.RestIsSound.{sound}
use Rattle.hn_sound.proofs.worked.worked_home_is_sound.Goals as goal

worked_is_home : IsHome worked
worked_is_home = home_from worked refl

worked_is_at_rest : IsHomeAtRest worked
worked_is_at_rest = each_pair_from _ is_at_rest at_rest_from worked refl

pub returns-clause-is_home : goal.returns-clause-is_home
returns-clause-is_home c = worked_is_home

pub returns-clause-at_rest : goal.returns-clause-at_rest
returns-clause-at_rest c = worked_is_at_rest

pub returns-clause-sound : goal.returns-clause-sound
returns-clause-sound c = sound worked worked_is_home worked_is_at_rest
