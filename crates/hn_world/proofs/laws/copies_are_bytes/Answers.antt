use Rattle.hn_world.proofs.CopiesOfBytes.{all_of_bytes}
use Rattle.hn_world.proofs.SoundRouters.{StayLaws}
use Rattle.hn_world.proofs.laws.copies_are_bytes.Goals as goal

pub returns : goal.returns
returns c =
    let stay : StayLaws = record { new = c.new_is_router.ensures; stays = c.router_stays.ensures; moment = c.moment_is_now.ensures } in
    all_of_bytes (record { stay = stay; sends = c.sends_are_bytes.ensures })
