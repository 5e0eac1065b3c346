use Rattle.hn_world.proofs.Names.{IsSoundWorld}
use Rattle.hn_world.proofs.SoundRouters.{StayLaws, sound_replay, always}
use Rattle.hn_world.proofs.laws.always_sound.Goals as goal

pub returns : goal.returns
returns c =
    let laws : StayLaws = record { new = c.new_is_router.ensures; stays = c.router_stays.ensures; moment = c.moment_is_now.ensures } in
    record { sound = λ w h. sound_replay laws w.version w.trace w h; always = always IsSoundWorld (sound_replay laws) }
