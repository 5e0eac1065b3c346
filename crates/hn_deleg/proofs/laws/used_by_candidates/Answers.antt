use Rattle.hn_deleg.proofs.Candidates.{same_used, preferred_announced, preferred_before}
use Rattle.hn_deleg.proofs.laws.used_by_candidates.Goals as goal

pub returns-clause-used : goal.returns-clause-used
returns-clause-used c = same_used

pub returns-clause-preferred : goal.returns-clause-preferred
returns-clause-preferred c = preferred_announced

pub returns-clause-was : goal.returns-clause-was
returns-clause-was c = preferred_before
