use Rattle.hn_base.proofs.Names.{append_assoc}
use Rattle.hn_report.proofs.prefix_reports.use_line.Goals as goal

pub returns : goal.returns
returns c =
    simp append_assoc (rw (← c.text-prefix.ensures, ← c.whole_seconds-valid.ensures, ← c.whole_seconds-preferred.ensures) c.format.ensures.ok)
