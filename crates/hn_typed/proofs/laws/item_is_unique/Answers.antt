use Rattle.hn_typed.proofs.OneItem.{same_item}
use Rattle.hn_typed.proofs.laws.item_is_unique.Goals as goal

pub returns : goal.returns
returns c = same_item
