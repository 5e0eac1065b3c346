use Rattle.hn_base.proofs.Names.{append_assoc}
use Rattle.hn_table.proofs.assignment_lines.push_backoff.Goals as goal

pub returns : goal.returns
returns c = simp append_assoc (rw (← c.text-delegated.ensures) c.write.ensures.bytes)
