use Rattle.hn_base.proofs.Names.{append_assoc}
use Rattle.hn_report.proofs.router_reports.hash_line.Goals as goal

pub returns : goal.returns
returns c = simp append_assoc (rw (← c.net-net.ensures) c.format.ensures.ok)
