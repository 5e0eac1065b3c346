use Rattle.hn_tlv.proofs.TlvAtPlace.{same_place}
use Rattle.hn_tlv.proofs.laws.tlv_is_unique.Goals as goal

pub returns : goal.returns
returns c = same_place
