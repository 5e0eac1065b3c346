use Rattle.hn_script.proofs.NodeFiles.{one_node_fault}
use Rattle.hn_script.proofs.laws.node_fault_is_unique.Goals as goal

pub returns : goal.returns
returns c = one_node_fault
