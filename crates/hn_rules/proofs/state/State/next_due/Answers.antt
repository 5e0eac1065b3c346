use Rattle.hn_rules.proofs.Dues.{due_of_parts}
use Rattle.hn_rules.proofs.state.State.next_due.Goals as goal

pub returns : goal.returns
returns c = due_of_parts c.args.self.now c.next_of_ports-ports.result c.next_kept-kept.result c.next_seen.result c.next_of_ports-ports.ensures c.next_kept-kept.ensures c.next_seen.ensures
