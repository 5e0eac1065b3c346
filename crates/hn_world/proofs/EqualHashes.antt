-- Routers of a replayed world with equal network state hashes.
use Rattle.hn_base.proofs.Names.{◌∙◌, List, sym, All-contains}
use Rattle.hn_world.proofs.Names.{EqualHashesAgreeOrCollide, HashIsOfLeaves, leaves_of, Traced, Version, Parts, EqualHashesAgree, Replays, IsSoundMember, IsSoundWorld}
use Rattle.hn_world.proofs.SoundRouters.{StayLaws, sound_replay}

agree : HashIsOfLeaves → EqualHashesAgreeOrCollide → (w : Parts) → IsSoundWorld w → EqualHashesAgree w
agree of_leaves agree_or_collide w sound a b in_a in_b same =
    let left = of_leaves a.router (All-contains (IsSoundMember w.moment) w.members a sound in_a).router in
    let right = of_leaves b.router (All-contains (IsSoundMember w.moment) w.members b sound in_b).router in
    agree_or_collide (leaves_of a.router) (leaves_of b.router) left.1 right.1 (sym left.0 ∙ same ∙ right.0)

pub agree_replay : StayLaws → HashIsOfLeaves → EqualHashesAgreeOrCollide → (version : Version) (ts : List Traced) (w : Parts) → Replays version ts w → EqualHashesAgree w
agree_replay laws of_leaves agree_or_collide version ts w h = agree of_leaves agree_or_collide w (sound_replay laws version ts w h)
