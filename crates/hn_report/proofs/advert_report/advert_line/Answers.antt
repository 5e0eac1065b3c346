use Rattle.hn_base.proofs.Names.{append_assoc}
use Rattle.hn_report.proofs.advert_report.advert_line.Goals as goal

pub returns : goal.returns
returns c = record {
  bytes = c.in_ok-advert.advert;
  are_bytes = c.in_ok-advert.ensures;
  line_is = simp append_assoc (rw (← c.as_slice.ensures) c.in_ok-format.ensures.ok);
}
