use Rattle.hn_lab.proofs.LawPlays.{cut_fronts}
use Rattle.hn_lab.proofs.laws.cut_text_is_a_front.Goals as goal

pub returns : goal.returns
returns c = cut_fronts c.results_are_unique.ensures
