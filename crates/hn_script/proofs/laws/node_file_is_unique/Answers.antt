use Rattle.hn_script.proofs.NodeFiles.{one_node_file}
use Rattle.hn_script.proofs.laws.node_file_is_unique.Goals as goal

pub returns : goal.returns
returns c = one_node_file c.read_form_is_of_one.ensures.prefix
