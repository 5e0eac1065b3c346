use Rattle.hn_lab.proofs.LawPlays.{one_play}
use Rattle.hn_lab.proofs.laws.at_most_one_play.Goals as goal

pub returns : goal.returns
returns c = one_play c.results_are_unique.ensures
