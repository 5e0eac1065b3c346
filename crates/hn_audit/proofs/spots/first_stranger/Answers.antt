use Rattle.hn_base.proofs.Names.{None, arith}
use Rattle.hn_audit.proofs.Names.{Member, FindsStranger, plain_spots}
use Rattle.hn_audit.proofs.Searching.{found_here_in, found_nowhere_in, none_more}
use Rattle.hn_audit.proofs.spots.first_stranger.Goals as goal

pub returns-in-Some : goal.returns-in-Some
returns-in-Some c =
    let all = c.loop-m.invariant in
    found_here_in (FindsStranger c.args.reach.now (plain_spots c.args.spots.now)) c.members-m-items.result.now c.args.world.now.parts.members all.all c.loop-m.m-index all.so_far
    c.m-item.result _ _ c.loop-m-test.true c.m-item.is c.in-Some.ensures

pub loop-m-preserved : goal.loop-m-preserved
loop-m-preserved c =
    let none : Member → Type 0 = λ m. FindsStranger c.args.reach.now (plain_spots c.args.spots.now) m None in
    record {
      all = c.loop-m.invariant.all;
      so_far = none_more none c.members-m-items.result.now c.loop-m.m-index c.m-item.result _ c.loop-m.invariant.so_far c.loop-m-test.true c.m-item.is c.in_default.ensures;
    }

pub returns : goal.returns
returns c =
    let all = c.loop-m.invariant in
    found_nowhere_in (FindsStranger c.args.reach.now (plain_spots c.args.spots.now)) c.members-m-items.result.now c.args.world.now.parts.members all.all c.loop-m.m-index all.so_far
    (omega (arith, c.loop-m-test.false))
