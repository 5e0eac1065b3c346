use Rattle.hn_base.proofs.Names.{append_assoc}
use Rattle.hn_table.proofs.router_lines.push_peer.Goals as goal

pub returns : goal.returns
returns c = simp append_assoc (rw (← c.address_text-address.ensures.exact) c.write.ensures.bytes)
