use Rattle.hn_data.proofs.ItemsExist.{has_items_or_none}
use Rattle.hn_data.proofs.laws.items_or_none.Goals as goal

pub returns : goal.returns
returns c = has_items_or_none c.list_is_of_bytes.ensures c.first_fault_is_unique.ensures.no_list c.list_or_first_fault.ensures c.item_fault_is_unique.ensures.no_item c.item_or_fault.ensures
