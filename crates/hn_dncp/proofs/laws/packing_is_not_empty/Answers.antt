use Rattle.hn_dncp.proofs.Packings.{packing_not_empty}
use Rattle.hn_dncp.proofs.laws.packing_is_not_empty.Goals as goal

pub returns : goal.returns
returns c = packing_not_empty
