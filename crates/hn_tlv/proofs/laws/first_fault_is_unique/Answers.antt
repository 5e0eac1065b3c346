use Rattle.hn_tlv.proofs.OneReading.{no_list, same_first_fault}
use Rattle.hn_tlv.proofs.laws.first_fault_is_unique.Goals as goal

pub returns-clause-no_list : goal.returns-clause-no_list
returns-clause-no_list c = no_list

pub returns-clause-one : goal.returns-clause-one
returns-clause-one c = same_first_fault
