use Rattle.hn_typed.proofs.WrittenIsRead.{read_can_be_written}
use Rattle.hn_typed.proofs.laws.read_is_writable.Goals as goal

pub returns : goal.returns
returns c = read_can_be_written
