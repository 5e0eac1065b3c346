use Rattle.hn_base.proofs.Names.{append_assoc}
use Rattle.hn_report.proofs.router_reports.mail_line.Goals as goal

pub returns : goal.returns
returns c = simp append_assoc (rw (← c.copies-copies.ensures, ← c.waiting-waiting.ensures) c.format.ensures.ok)
