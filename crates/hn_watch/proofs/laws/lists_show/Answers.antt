use Rattle.hn_watch.proofs.ShownLemmas.{shown_there}
use Rattle.hn_watch.proofs.laws.lists_show.Goals as goal

pub returns : goal.returns
returns c = shown_there c.item_or_fault.ensures
