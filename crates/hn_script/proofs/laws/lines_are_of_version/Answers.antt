use Rattle.hn_script.proofs.Limits.{lines_of_version}
use Rattle.hn_script.proofs.laws.lines_are_of_version.Goals as goal

pub returns : goal.returns
returns c = lines_of_version
