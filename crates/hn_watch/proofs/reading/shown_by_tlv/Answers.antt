use Rattle.hn_base.proofs.Names.{inr, refl}
use Rattle.hn_watch.proofs.reading.shown_by_tlv.Goals as goal

pub returns-in-Err : goal.returns-in-Err
returns-in-Err c = inr (c.in-Err.field-0.why, c.in-Err.ensures.fault, refl)
