use Rattle.hn_base.proofs.Names.{◌≡◌, All, None, take}
use Rattle.hn_calm.specs.Home.{FindsApart}
use Rattle.hn_calm.proofs.home.first_apart.Given as goal

abbrev pub invariant-loop-m : goal.invariant-loop-m
invariant-loop-m l = record {
  all : l.m-items ≡ l.world.parts.members;
  so_far : All (λ one. FindsApart l.reach one None) (take l.m-index l.m-items);
}
