use Rattle.hn_base.proofs.Names.{◌≡◌, take}
use Rattle.hn_calm.specs.Home.{LastBefore}
use Rattle.hn_calm.proofs.ended.last_before.Given as goal

abbrev pub invariant-loop-m : goal.invariant-loop-m
invariant-loop-m l = record {
  all : l.m-items ≡ l.world.parts.members;
  so_far : LastBefore l.r (take l.m-index l.m-items) l.first;
}
