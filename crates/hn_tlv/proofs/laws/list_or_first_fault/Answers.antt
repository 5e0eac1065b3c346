use Rattle.hn_tlv.proofs.ListOrFault.{covered}
use Rattle.hn_tlv.proofs.laws.list_or_first_fault.Goals as goal

pub returns : goal.returns
returns c = covered
