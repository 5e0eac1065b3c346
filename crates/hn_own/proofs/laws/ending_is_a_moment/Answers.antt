use Rattle.hn_own.proofs.LifetimesEnd.{ended_from}
use Rattle.hn_own.proofs.laws.ending_is_a_moment.Goals as goal

pub returns : goal.returns
returns c = ended_from
