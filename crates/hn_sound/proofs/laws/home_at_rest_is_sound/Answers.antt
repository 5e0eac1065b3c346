use Rattle.hn_sound.proofs.RestIsSound.{sound}
use Rattle.hn_sound.proofs.laws.home_at_rest_is_sound.Goals as goal

pub returns : goal.returns
returns c = sound
