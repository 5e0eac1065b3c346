use Rattle.hn_typed.proofs.OneFault.{no_fault, same_fault}
use Rattle.hn_typed.proofs.laws.item_fault_is_unique.Goals as goal

pub returns-clause-no_item : goal.returns-clause-no_item
returns-clause-no_item c = no_fault

pub returns-clause-one : goal.returns-clause-one
returns-clause-one c = same_fault
