use Rattle.hn_advert.proofs.Written.{read_again}
use Rattle.hn_advert.proofs.laws.written_is_read.Goals as goal

pub returns : goal.returns
returns c = read_again
