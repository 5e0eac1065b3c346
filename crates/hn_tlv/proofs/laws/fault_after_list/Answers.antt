use Rattle.hn_tlv.proofs.TlvAtPlace.{breaks_off}
use Rattle.hn_tlv.proofs.laws.fault_after_list.Goals as goal

pub returns : goal.returns
returns c = breaks_off
