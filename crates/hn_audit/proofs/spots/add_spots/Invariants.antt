use Rattle.hn_base.proofs.Names.{◌≡◌, ◌++◌, take, filter_map}
use Rattle.hn_audit.proofs.Names.{plain_spots, spot_at}
use Rattle.hn_audit.proofs.spots.add_spots.Given as goal

abbrev pub invariant-loop-a : goal.invariant-loop-a
invariant-loop-a l = record {
  all : l.a-items ≡ l.member.attachments;
  so_far : plain_spots l.spots.items ≡ plain_spots l.initial.spots.items ++ filter_map (spot_at l.member) (take l.a-index l.a-items);
}
