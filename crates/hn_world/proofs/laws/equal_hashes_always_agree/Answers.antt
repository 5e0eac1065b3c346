use Rattle.hn_world.proofs.Names.{EqualHashesAgree}
use Rattle.hn_world.proofs.SoundRouters.{StayLaws, always}
use Rattle.hn_world.proofs.EqualHashes.{agree_replay}
use Rattle.hn_world.proofs.laws.equal_hashes_always_agree.Goals as goal

pub returns : goal.returns
returns c =
    let laws : StayLaws = record { new = c.new_is_router.ensures; stays = c.router_stays.ensures; moment = c.moment_is_now.ensures } in
    always EqualHashesAgree (agree_replay laws c.hash_is_of_leaves.ensures c.equal_hashes_agree_or_collide.ensures)
