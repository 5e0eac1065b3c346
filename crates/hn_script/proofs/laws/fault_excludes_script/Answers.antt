use Rattle.hn_script.proofs.SameScripts.{script_no_fault}
use Rattle.hn_script.proofs.laws.fault_excludes_script.Goals as goal

pub returns : goal.returns
returns c = script_no_fault
