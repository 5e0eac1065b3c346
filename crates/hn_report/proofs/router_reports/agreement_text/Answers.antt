use Rattle.hn_base.proofs.Names.{append_assoc}
use Rattle.hn_report.proofs.router_reports.agreement_text.Goals as goal

pub returns-in-Collide : goal.returns-in-Collide
returns-in-Collide c =
    rw c.in-Collide.is
    (simp append_assoc (rw (← c.as_slice.ensures, ← c.as_slice-in-Collide.ensures) c.format-in-Collide.ensures.ok))
