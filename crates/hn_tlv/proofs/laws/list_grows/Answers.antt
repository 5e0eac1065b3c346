use Rattle.hn_tlv.proofs.TlvAtPlace.{grows}
use Rattle.hn_tlv.proofs.laws.list_grows.Goals as goal

pub returns : goal.returns
returns c = grows
