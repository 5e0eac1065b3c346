use Rattle.hn_store.proofs.Losses.{rises_from_answer}
use Rattle.hn_store.proofs.loss.ascend.Goals as goal

pub returns : goal.returns
returns c = rises_from_answer c.args.ids.now c.is_sorted.result c.is_sorted.ensures.cases
