use Rattle.hn_sync.proofs.Asked.{asked_or_refused}
use Rattle.hn_sync.proofs.laws.refused_or_asked.Goals as goal

pub returns : goal.returns
returns c = asked_or_refused c.always_sound.ensures.sound
