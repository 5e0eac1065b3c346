use Rattle.hn_tlv.proofs.OneReading.{same_list}
use Rattle.hn_tlv.proofs.laws.list_is_unique.Goals as goal

pub returns : goal.returns
returns c = same_list
