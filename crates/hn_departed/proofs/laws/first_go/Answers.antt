use Rattle.hn_base.proofs.Names.{◌-◌, length}
use Rattle.hn_departed.proofs.Names.{departed}
use Rattle.hn_departed.proofs.FirstGoes.{first_goes}
use Rattle.hn_departed.proofs.laws.first_go.Goals as goal

pub returns : goal.returns
returns c now infos told gone stays = first_goes (length (departed now infos told) - 64) (departed now infos told) gone stays
