use Rattle.hn_dncp.proofs.Packings.{packing_short}
use Rattle.hn_dncp.proofs.laws.packing_is_short.Goals as goal

pub returns : goal.returns
returns c = packing_short
