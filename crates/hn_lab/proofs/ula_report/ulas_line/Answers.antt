use Rattle.hn_base.proofs.Names.{append_assoc}
use Rattle.hn_lab.proofs.Names.{string_bytes}
use Rattle.hn_lab.proofs.ula_report.ulas_line.Goals as goal

pub returns : goal.returns
returns c = record { told = string_bytes c.in_ok-told.told; is_told = c.in_ok-told.ensures; line_is = simp append_assoc c.in_ok-format.ensures.ok }
