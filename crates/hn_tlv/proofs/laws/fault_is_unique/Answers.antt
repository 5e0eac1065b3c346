use Rattle.hn_tlv.proofs.OneReading.{no_tlv, same_fault}
use Rattle.hn_tlv.proofs.laws.fault_is_unique.Goals as goal

pub returns-clause-no_tlv : goal.returns-clause-no_tlv
returns-clause-no_tlv c = no_tlv

pub returns-clause-one : goal.returns-clause-one
returns-clause-one c = same_fault
