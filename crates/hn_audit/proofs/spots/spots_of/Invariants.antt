use Rattle.hn_base.proofs.Names.{◌≡◌, take}
use Rattle.hn_audit.proofs.Names.{members_of, plain_spots, spots_in}
use Rattle.hn_audit.proofs.spots.spots_of.Given as goal

abbrev pub invariant-loop-member : goal.invariant-loop-member
invariant-loop-member l = plain_spots l.spots.items ≡ spots_in (members_of (take l.member-index l.set))
