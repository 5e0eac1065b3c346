use Rattle.hn_dncp.proofs.Packings.{packing_read}
use Rattle.hn_dncp.proofs.laws.packing_is_read.Goals as goal

pub returns : goal.returns
returns c = packing_read
