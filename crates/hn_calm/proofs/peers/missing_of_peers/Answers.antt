use Rattle.hn_base.proofs.Names.{None, arith}
use Rattle.hn_calm.specs.Peers.{FindsAtRouter}
use Rattle.hn_calm.proofs.Searching.{found_here, found_nowhere, none_more}
use Rattle.hn_calm.proofs.peers.missing_of_peers.Goals as goal

pub returns-in-Some : goal.returns-in-Some
returns-in-Some c =
    let all = c.loop-y.invariant in
    found_here (FindsAtRouter c.args.world.now.parts c.args.r.now) c.members-y-items.result.now c.args.world.now.parts.members all.all c.loop-y.y-index all.so_far
    c.y-item.result _ _ c.loop-y-test.true c.y-item.is
    c.in-Some.ensures

pub loop-y-preserved : goal.loop-y-preserved
loop-y-preserved c =
    let all = c.loop-y.invariant in
    record {
      all = all.all;
      so_far = none_more (λ one. FindsAtRouter c.args.world.now.parts c.args.r.now one None) c.members-y-items.result.now c.loop-y.y-index c.y-item.result _ all.so_far c.loop-y-test.true c.y-item.is
          c.in_default.ensures;
    }

pub returns : goal.returns
returns c =
    let all = c.loop-y.invariant in
    found_nowhere (FindsAtRouter c.args.world.now.parts c.args.r.now) c.members-y-items.result.now c.args.world.now.parts.members all.all c.loop-y.y-index all.so_far
    (omega (arith, c.loop-y-test.false))
