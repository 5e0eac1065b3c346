use Rattle.hn_rules.proofs.Dues.{due_from}
use Rattle.hn_rules.proofs.state.State.next_due_from.Goals as goal

pub returns-then-next_of_timers-until : goal.returns-then-next_of_timers-until
returns-then-next_of_timers-until c = due_from c.args.self.now c.args.until c.next_of_timers.result c.if-next_of_timers-until.true c.requires c.next_of_timers.ensures
