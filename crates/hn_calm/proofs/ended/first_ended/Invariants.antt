use Rattle.hn_base.proofs.Names.{◌≡◌, All, None, take}
use Rattle.hn_calm.specs.Home.{FindsEnded}
use Rattle.hn_calm.proofs.ended.first_ended.Given as goal

abbrev pub invariant-loop-m : goal.invariant-loop-m
invariant-loop-m l = record {
  all : l.m-items ≡ l.world.parts.members;
  so_far : All (λ one. FindsEnded l.world.parts.moment one None) (take l.m-index l.m-items);
}
