use Rattle.hn_world.proofs.Names.{AuthenticUnlessInjected}
use Rattle.hn_world.proofs.SoundRouters.{StayLaws, always}
use Rattle.hn_world.proofs.Authentics.{AuthenticLaws, authentic_replay}
use Rattle.hn_world.proofs.laws.always_authentic.Goals as goal

pub returns : goal.returns
returns c =
    let stay : StayLaws = record { new = c.new_is_router.ensures; stays = c.router_stays.ensures; moment = c.moment_is_now.ensures } in
    let laws : AuthenticLaws = record { stay = stay; genuine = c.genuine_stays.ensures } in
    record { now = λ w h. authentic_replay laws w.version w.trace w h; always = always AuthenticUnlessInjected (authentic_replay laws) }
