use Rattle.hn_data.proofs.OneReading.{items_unique}
use Rattle.hn_data.proofs.laws.items_are_unique.Goals as goal

pub returns : goal.returns
returns c = items_unique c.list_is_unique.ensures c.item_is_unique.ensures
