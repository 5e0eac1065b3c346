use Rattle.hn_departed.proofs.Lengths.{few_are_kept}
use Rattle.hn_departed.proofs.laws.few_are_kept.Goals as goal

pub returns : goal.returns
returns c = few_are_kept
