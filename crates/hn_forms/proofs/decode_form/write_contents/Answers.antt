use Rattle.hn_base.proofs.Names.{inl, inr, refl, lit<}
use Rattle.hn_forms.proofs.Names.{malformed_line}
use Rattle.hn_forms.proofs.Cut.{broken_of_written, starved_of_written, written_statuses}
use Rattle.hn_forms.proofs.decode_form.write_contents.Goals as goal

pub returns-in-Err-clause-statuses : goal.returns-in-Err-clause-statuses
returns-in-Err-clause-statuses g c = rw c.written_status-in-Err.ensures (written_statuses c.write_malformed.result)

pub returns-in-Ok-clause-broken : goal.returns-in-Ok-clause-broken
returns-in-Ok-clause-broken g c failed =
    let told = broken_of_written c.write_tlvs.result 0 _ (lit< tt) c.write_tlvs.ensures.cut (rw c.written_status.ensures at failed) in
    (0, told.0, inl (refl, told.1), told.2)

pub returns-in-Ok-clause-starved : goal.returns-in-Ok-clause-starved
returns-in-Ok-clause-starved g c starved =
    let told = starved_of_written c.write_tlvs.result 0 _ (lit< tt) c.write_tlvs.ensures.cut (rw c.written_status.ensures at starved) in
    (0, told.0, inl (refl, told.1), told.2)

pub returns-in-Err-clause-broken : goal.returns-in-Err-clause-broken
returns-in-Err-clause-broken g c failed =
    let fault = c.in-Err.fault in
    let told = broken_of_written c.write_malformed.result 2 _ (lit< tt) c.write_malformed.ensures.cut (rw c.written_status-in-Err.ensures at failed) in
    (2, malformed_line fault.place fault.why, inr (record { place = fault.place; why = fault.why; fault = c.in-Err.ensures.fault; status_is = refl; text_is = refl }), told)

pub returns-in-Err-clause-starved : goal.returns-in-Err-clause-starved
returns-in-Err-clause-starved g c starved =
    let fault = c.in-Err.fault in
    let told = starved_of_written c.write_malformed.result 2 _ (lit< tt) c.write_malformed.ensures.cut (rw c.written_status-in-Err.ensures at starved) in
    (2, malformed_line fault.place fault.why, inr (record { place = fault.place; why = fault.why; fault = c.in-Err.ensures.fault; status_is = refl; text_is = refl }), told)
