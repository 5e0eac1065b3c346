use Rattle.hn_base.proofs.Names.{append_assoc}
use Rattle.hn_table.proofs.router_lines.push_node.Goals as goal

pub returns : goal.returns
returns c = simp append_assoc (simp append_assoc at c.write.ensures.bytes)
