use Rattle.hn_prefix.proofs.FirstAtPlace.{place_is_first}
use Rattle.hn_prefix.proofs.laws.place_is_first.Goals as goal

pub returns : goal.returns
returns c = place_is_first
