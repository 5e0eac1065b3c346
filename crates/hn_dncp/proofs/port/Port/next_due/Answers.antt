use Rattle.hn_base.proofs.Names.{◌≡◌}
use Rattle.hn_dncp.proofs.Names.{silence_end}
use Rattle.hn_timers.specs.Due.{IsIntervalDue}
use Rattle.hn_base.proofs.NextDue.{sooner_both}
use Rattle.hn_dncp.proofs.port.Port.next_due.Goals as goal

pub returns : goal.returns
returns c =
    sooner_both (IsIntervalDue c.args.self.now.trickle) (λ m.
    m ≡ silence_end c.args.self.now.sent) c.args.now c.args.best c.next_due-first.result c.next_silence.result c.next_due-first.ensures c.next_silence.ensures
