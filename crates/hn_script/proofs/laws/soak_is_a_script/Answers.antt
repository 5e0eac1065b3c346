use Rattle.hn_script.proofs.SoakExists.{soak_is}
use Rattle.hn_script.proofs.laws.soak_is_a_script.Goals as goal

pub returns : goal.returns
returns c = soak_is c.printed_is_read.ensures
