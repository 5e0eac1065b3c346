use Rattle.hn_lab.proofs.LawPlays.{one_cut}
use Rattle.hn_lab.proofs.laws.at_most_one_cut_play.Goals as goal

pub returns : goal.returns
returns c = one_cut c.results_are_unique.ensures
