use Rattle.hn_assign.proofs.IdleRuns.{run_later}
use Rattle.hn_assign.proofs.laws.idle_run_stays.Goals as goal

pub returns : goal.returns
returns c = run_later
