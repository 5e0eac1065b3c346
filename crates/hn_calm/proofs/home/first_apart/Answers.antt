use Rattle.hn_base.proofs.Names.{None, arith}
use Rattle.hn_calm.specs.Home.{FindsApart}
use Rattle.hn_calm.proofs.Searching.{found_here, found_nowhere, none_more}
use Rattle.hn_calm.proofs.home.first_apart.Goals as goal

pub returns-in-Some : goal.returns-in-Some
returns-in-Some c =
    let all = c.loop-m.invariant in
    found_here (FindsApart c.args.reach.now) c.members-m-items.result.now c.args.world.now.parts.members all.all c.loop-m.m-index all.so_far c.m-item.result _ _ c.loop-m-test.true c.m-item.is
    c.in-Some.ensures

pub loop-m-preserved : goal.loop-m-preserved
loop-m-preserved c =
    let all = c.loop-m.invariant in
    record {
      all = all.all;
      so_far = none_more (λ one. FindsApart c.args.reach.now one None) c.members-m-items.result.now c.loop-m.m-index c.m-item.result _ all.so_far c.loop-m-test.true c.m-item.is
          c.in_default.ensures;
    }

pub returns : goal.returns
returns c =
    let all = c.loop-m.invariant in
    found_nowhere (FindsApart c.args.reach.now) c.members-m-items.result.now c.args.world.now.parts.members all.all c.loop-m.m-index all.so_far (omega (arith, c.loop-m-test.false))
