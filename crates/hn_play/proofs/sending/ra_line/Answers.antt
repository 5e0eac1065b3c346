use Rattle.hn_base.proofs.Names.{append_assoc}
use Rattle.hn_play.proofs.sending.ra_line.Goals as goal

pub returns : goal.returns
returns c = simp append_assoc c.format.ensures.ok
