use Rattle.hn_play.proofs.RunStarved.{starved_after}
use Rattle.hn_play.proofs.carrying.over.Goals as goal

pub returns-in-Err-clause-starved : goal.returns-in-Err-clause-starved
returns-in-Err-clause-starved g c = λ _.
    starved_after c.args.base c.args.bytes.now _ _ _ _ _ _ c.in_ok-send.ensures.sent c.in-Some.is c.in_ok-count.ensures.taken c.in_ok-count.ensures.count
