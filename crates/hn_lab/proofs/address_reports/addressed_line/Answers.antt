use Rattle.hn_base.proofs.Names.{append_assoc}
use Rattle.hn_lab.proofs.address_reports.addressed_line.Goals as goal

pub returns : goal.returns
returns c = record { told = c.in_ok-told.told.now; is_addressed = c.in_ok-told.ensures; line_is = simp append_assoc c.in_ok-format.ensures.ok }
