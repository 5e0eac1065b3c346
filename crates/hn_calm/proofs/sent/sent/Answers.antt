use Rattle.hn_base.proofs.Names.{None, arith}
use Rattle.hn_calm.specs.Peers.{FindsSentOf}
use Rattle.hn_calm.proofs.Searching.{found_here, found_nowhere, none_more}
use Rattle.hn_calm.proofs.sent.sent.Goals as goal

pub returns-in-Some : goal.returns-in-Some
returns-in-Some c =
    let all = c.loop-x.invariant in
    found_here (FindsSentOf c.args.y.now c.args.q c.args.peer.now c.args.after) c.members-x-items.result.now c.args.world.now.parts.members all.all c.loop-x.x-index all.so_far
    c.x-item.result _ _ c.loop-x-test.true c.x-item.is
    c.in-Some.ensures

pub loop-x-preserved : goal.loop-x-preserved
loop-x-preserved c =
    let all = c.loop-x.invariant in
    record {
      all = all.all;
      so_far = none_more (λ one. FindsSentOf c.args.y.now c.args.q c.args.peer.now c.args.after one None) c.members-x-items.result.now c.loop-x.x-index c.x-item.result _ all.so_far
          c.loop-x-test.true c.x-item.is
          c.in_default.ensures;
    }

pub returns : goal.returns
returns c =
    let all = c.loop-x.invariant in
    found_nowhere (FindsSentOf c.args.y.now c.args.q c.args.peer.now c.args.after) c.members-x-items.result.now c.args.world.now.parts.members all.all c.loop-x.x-index all.so_far
    (omega (arith, c.loop-x-test.false))
