use Rattle.hn_base.proofs.Names.{arith}
use Rattle.hn_advert.proofs.Fields.{flags_in}
use Rattle.hn_advert.proofs.header.flags_of.Goals as goal

pub returns : goal.returns
returns c = flags_in c.args.byte (omega arith)
