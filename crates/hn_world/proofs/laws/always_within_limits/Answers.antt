use Rattle.hn_world.proofs.Names.{AreWithinLimits}
use Rattle.hn_world.proofs.SoundRouters.{StayLaws, always}
use Rattle.hn_world.proofs.WithinLimits.{LimitLaws, within_replay}
use Rattle.hn_world.proofs.laws.always_within_limits.Goals as goal

pub returns : goal.returns
returns c =
    let stay : StayLaws = record { new = c.new_is_router.ensures; stays = c.router_stays.ensures; moment = c.moment_is_now.ensures } in
    let laws : LimitLaws = record { stay = stay; sends = c.sends_are_short.ensures; limit = c.limit_stays.ensures } in
    record { now = λ w h. within_replay laws w.version w.trace w h; always = always AreWithinLimits (within_replay laws) }
