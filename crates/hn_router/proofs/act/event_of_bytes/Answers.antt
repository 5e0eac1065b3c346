use Rattle.hn_router.proofs.act.event_of_bytes.Goals as goal

pub returns-in-Arrive : goal.returns-in-Arrive
returns-in-Arrive c = rw c.in-Arrive.is c.bytes_in_range.ensures
