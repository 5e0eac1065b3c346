use Rattle.hn_link.proofs.Elections.{one_elected, one_who}
use Rattle.hn_link.proofs.laws.elected_is_unique.Goals as goal

pub returns-clause-one : goal.returns-clause-one
returns-clause-one c = one_elected

pub returns-clause-answer : goal.returns-clause-answer
returns-clause-answer c = one_who
