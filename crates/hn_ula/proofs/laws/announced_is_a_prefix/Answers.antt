use Rattle.hn_ula.proofs.Announced.{announced}
use Rattle.hn_ula.proofs.laws.announced_is_a_prefix.Goals as goal

pub returns : goal.returns
returns c = announced
