use Rattle.hn_script.proofs.SameScripts.{one_fault}
use Rattle.hn_script.proofs.laws.fault_is_unique.Goals as goal

pub returns : goal.returns
returns c = one_fault
