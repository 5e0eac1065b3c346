use Rattle.hn_tlv.proofs.SpelledBytes.{list_bytes}
use Rattle.hn_tlv.proofs.laws.list_is_of_bytes.Goals as goal

pub returns : goal.returns
returns c = list_bytes
