use Rattle.hn_base.proofs.Names.{◌≡◌, None, take}
use Rattle.hn_audit.proofs.Names.{All, FindsStranger, plain_spots}
use Rattle.hn_audit.proofs.spots.first_stranger.Given as goal

abbrev pub invariant-loop-m : goal.invariant-loop-m
invariant-loop-m l = record {
  all : l.m-items ≡ l.world.parts.members;
  so_far : All (λ m. FindsStranger l.reach (plain_spots l.spots) m None) (take l.m-index l.m-items);
}
