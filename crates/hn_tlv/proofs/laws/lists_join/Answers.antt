use Rattle.hn_tlv.proofs.OneReading.{joined}
use Rattle.hn_tlv.proofs.laws.lists_join.Goals as goal

pub returns : goal.returns
returns c = joined
