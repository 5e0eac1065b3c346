use Rattle.hn_world.proofs.Accepted.{fewer_events}
use Rattle.hn_world.proofs.OneStep.{trace_of_step}
use Rattle.hn_world.proofs.laws.each_event_is_entered.Goals as goal

pub returns : goal.returns
returns c = record {
  entered = λ t notes before after step. trace_of_step t before after (notes, step);
  room = λ t notes before after step. fewer_events before t.event step.accepted;
}
