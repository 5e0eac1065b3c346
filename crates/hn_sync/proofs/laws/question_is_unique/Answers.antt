use Rattle.hn_sync.proofs.Asked.{one_question}
use Rattle.hn_sync.proofs.laws.question_is_unique.Goals as goal

pub returns : goal.returns
returns c = one_question
