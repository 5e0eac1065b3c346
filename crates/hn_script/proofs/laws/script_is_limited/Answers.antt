use Rattle.hn_script.proofs.Limits.{limited}
use Rattle.hn_script.proofs.laws.script_is_limited.Goals as goal

pub returns : goal.returns
returns c = limited
