use Rattle.hn_base.proofs.Names.{◌≡◌, filter, take}
use Rattle.hn_audit.proofs.Names.{is_in_set, members_of}
use Rattle.hn_audit.proofs.reached.set_of.Given as goal

abbrev pub invariant-loop-member : goal.invariant-loop-member
invariant-loop-member l = record {
  all : l.member-items ≡ l.world.parts.members;
  so_far : members_of l.set.items ≡ filter (is_in_set l.reach) (take l.member-index l.member-items);
}
