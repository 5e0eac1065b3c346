use Rattle.hn_script.proofs.NodeFiles.{node_file_no_fault}
use Rattle.hn_script.proofs.laws.fault_excludes_node_file.Goals as goal

pub returns : goal.returns
returns c = node_file_no_fault
