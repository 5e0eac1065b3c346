use Rattle.hn_dncp.proofs.PackingMade.{packing_made}
use Rattle.hn_dncp.proofs.laws.packing_exists.Goals as goal

pub returns : goal.returns
returns c = packing_made
