use Rattle.hn_base.proofs.Names.{Err, inr, refl, ap}
use Rattle.hn_lab_c.proofs.decoding.contents.Goals as goal

pub returns-in_ok-line-in-Err-Malformed : goal.returns-in_ok-line-in-Err-Malformed
returns-in_ok-line-in-Err-Malformed c =
    let fault = c.in-Err-Malformed.fault in (
      2,
      inr (record {
        place = fault.place;
        why = fault.why;
        fault = (c.in-Err-Malformed.ensures.malformed fault.place fault.why).0 (ap Err c.in-Err-Malformed.field-0-is);
        status_is = refl;
        text_is = c.in_ok-line-in-Err-Malformed.ensures;
      }),
    )
