use Rattle.hn_watch.proofs.SeenLemmas.{seen_unique}
use Rattle.hn_watch.proofs.laws.seen_is_unique.Goals as goal

pub returns : goal.returns
returns c = seen_unique
