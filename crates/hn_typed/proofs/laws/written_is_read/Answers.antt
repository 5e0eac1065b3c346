use Rattle.hn_typed.proofs.WrittenIsRead.{written_is_item}
use Rattle.hn_typed.proofs.laws.written_is_read.Goals as goal

pub returns : goal.returns
returns c = written_is_item
