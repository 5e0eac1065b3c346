use Rattle.hn_sync.proofs.SomeEnds.{exchange_ends}
use Rattle.hn_sync.proofs.laws.exchange_exists.Goals as goal

pub returns : goal.returns
returns c =
    exchange_ends (record {
      steps = c.step_exists.ensures.replayed;
      enters = c.each_event_is_entered.ensures.entered;
      room = c.each_event_is_entered.ensures.room;
      trace = c.at_most_one_world.ensures.trace;
      version = c.at_most_one_world.ensures.version;
      asks = c.refused_or_asked.ensures;
      join = c.words_join.ensures;
      of_bytes = c.list_is_of_bytes.ensures;
    })
