use Rattle.hn_assign.proofs.LaterMoments.{rest_of_unchanged, rest_of_unwanted}
use Rattle.hn_assign.proofs.laws.rest_stays.Goals as goal

pub returns-clause-unchanged : goal.returns-clause-unchanged
returns-clause-unchanged c = rest_of_unchanged

pub returns-clause-unwanted : goal.returns-clause-unwanted
returns-clause-unwanted c = rest_of_unwanted
