use Rattle.hn_own.proofs.PostLists.{stays}
use Rattle.hn_own.proofs.laws.held_without_private.Goals as goal

pub returns : goal.returns
returns c = stays
