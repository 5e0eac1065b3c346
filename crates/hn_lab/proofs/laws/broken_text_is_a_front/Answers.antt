use Rattle.hn_lab.proofs.LawPlays.{broken_front}
use Rattle.hn_lab.proofs.laws.broken_text_is_a_front.Goals as goal

pub returns : goal.returns
returns c = broken_front c.results_are_unique.ensures
