use Rattle.hn_advert.proofs.Steps.{reads_more, breaks_off_at}
use Rattle.hn_advert.proofs.options.check_options.Goals as goal

pub loop-rest-preserved : goal.loop-rest-preserved
loop-rest-preserved c = let read = c.loop-rest.invariant in (_, reads_more c.args.options.now c.loop-rest.rest.now c.in-Ok.after.now read.0 c.in-Ok.field-0-0 read.1 c.in-Ok.ensures.option)

pub returns-in-Err-clause-fault : goal.returns-in-Err-clause-fault
returns-in-Err-clause-fault c = let read = c.loop-rest.invariant in breaks_off_at c.args.options.now c.loop-rest.rest.now read.0 c.in-Err.fault.place c.in-Err.fault.why read.1 c.in-Err.ensures.fault
