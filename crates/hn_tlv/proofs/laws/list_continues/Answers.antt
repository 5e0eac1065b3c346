use Rattle.hn_tlv.proofs.TlvAtPlace.{splits}
use Rattle.hn_tlv.proofs.laws.list_continues.Goals as goal

pub returns-clause-splits : goal.returns-clause-splits
returns-clause-splits c = splits
