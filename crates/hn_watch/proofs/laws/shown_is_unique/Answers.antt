use Rattle.hn_watch.proofs.ShownLemmas.{shown_unique}
use Rattle.hn_watch.proofs.laws.shown_is_unique.Goals as goal

pub returns : goal.returns
returns c = shown_unique c.list_is_unique.ensures c.item_is_unique.ensures c.item_fault_is_unique.ensures.no_item
