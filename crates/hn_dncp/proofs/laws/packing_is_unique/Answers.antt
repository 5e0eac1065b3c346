use Rattle.hn_dncp.proofs.Packings.{same_packing}
use Rattle.hn_dncp.proofs.laws.packing_is_unique.Goals as goal

pub returns : goal.returns
returns c = same_packing
