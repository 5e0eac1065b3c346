use Rattle.hn_base.proofs.Names.{◌≡◌, ◌<◌, ◌^◌, take}
use Rattle.hn_prefix.proofs.Names.{address_of_groups}
use Rattle.hn_prefix.proofs.groups.address.Given as goal

abbrev pub invariant-loop-group : goal.invariant-loop-group
invariant-loop-group l = record {
  value : l.address ≡ address_of_groups (take l.group-index l.groups);
  fits : l.address < 65536 ^ l.group-index;
}
