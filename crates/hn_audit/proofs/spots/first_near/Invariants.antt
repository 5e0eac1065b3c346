use Rattle.hn_base.proofs.Names.{◌≡◌, None, take}
use Rattle.hn_audit.proofs.Names.{All, FindsNear, plain_spots}
use Rattle.hn_audit.proofs.spots.first_near.Given as goal

abbrev pub invariant-loop-a : goal.invariant-loop-a
invariant-loop-a l = record {
  all : l.a-items ≡ l.member.attachments;
  so_far : All (λ a. FindsNear (plain_spots l.spots) l.member a None) (take l.a-index l.a-items);
}
