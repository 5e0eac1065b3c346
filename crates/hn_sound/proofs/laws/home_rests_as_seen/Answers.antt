use Rattle.hn_sound.proofs.RestByElements.{at_rest_as_seen}
use Rattle.hn_sound.proofs.laws.home_rests_as_seen.Goals as goal

pub returns : goal.returns
returns c = at_rest_as_seen
