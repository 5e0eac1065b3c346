use Rattle.hn_base.proofs.Names.{rules}
use Rattle.hn_data.proofs.FirstSaid.{find_is_first}
use Rattle.hn_data.proofs.asked.interval_at.Goals as goal

pub returns : goal.returns
returns c = rw (find_is_first c.args.e.0 c.args.intervals.now) (search rules)
