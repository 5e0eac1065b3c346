use Rattle.hn_typed.proofs.ItemOrFault.{covered}
use Rattle.hn_typed.proofs.laws.item_or_fault.Goals as goal

pub returns : goal.returns
returns c = covered c.list_or_first_fault.ensures c.first_fault_is_unique.ensures.no_list
