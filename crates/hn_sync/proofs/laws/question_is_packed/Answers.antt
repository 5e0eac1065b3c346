use Rattle.hn_sync.proofs.Asked.{packed}
use Rattle.hn_sync.proofs.laws.question_is_packed.Goals as goal

pub returns : goal.returns
returns c = packed c.packing_is_unique.ensures
