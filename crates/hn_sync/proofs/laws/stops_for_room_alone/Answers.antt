use Rattle.hn_sync.proofs.Between.{for_room_alone}
use Rattle.hn_sync.proofs.laws.stops_for_room_alone.Goals as goal

pub returns : goal.returns
returns c =
    for_room_alone (record {
      sound = c.always_sound.ensures.sound;
      trace = c.at_most_one_world.ensures.trace;
      version = c.at_most_one_world.ensures.version;
      endpoints = c.endpoints_follow.ensures;
    })
