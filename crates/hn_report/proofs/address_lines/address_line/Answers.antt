use Rattle.hn_base.proofs.Names.{append_assoc}
use Rattle.hn_report.proofs.address_lines.address_line.Goals as goal

pub returns : goal.returns
returns c = simp append_assoc (rw (← c.address_text-address.ensures.exact) c.format.ensures.ok)
