use Rattle.hn_lab.proofs.LawBreaks.{wire_fails_at_a_copy}
use Rattle.hn_lab.proofs.laws.wire_fails_at_a_copy.Goals as goal

pub returns : goal.returns
returns c = wire_fails_at_a_copy c.results_are_unique.ensures
