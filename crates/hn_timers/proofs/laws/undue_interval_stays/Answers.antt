use Rattle.hn_timers.proofs.UndueUntilDue.{stays}
use Rattle.hn_timers.proofs.laws.undue_interval_stays.Goals as goal

pub returns : goal.returns
returns c = λ i now later goes still none. stays i now later still none
