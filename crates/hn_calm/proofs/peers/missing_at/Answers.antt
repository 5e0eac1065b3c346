use Rattle.hn_base.proofs.Names.{None, refl, arith}
use Rattle.hn_calm.specs.Peers.{FindsPeer}
use Rattle.hn_calm.proofs.Searching.{found_here, found_nowhere, none_more}
use Rattle.hn_calm.proofs.peers.missing_at.Goals as goal

pub returns-in-Some : goal.returns-in-Some
returns-in-Some c =
    let all = c.loop-peer.invariant in
    found_here (FindsPeer c.args.world.now.parts c.args.r.now c.args.y.now c.args.port.now) c.as_slice-peer-items.result.now c.args.port.now.peers all.all c.loop-peer.peer-index all.so_far
    _ _ _ c.loop-peer-test.true refl
    c.in-Some.ensures

pub loop-peer-preserved : goal.loop-peer-preserved
loop-peer-preserved c =
    let all = c.loop-peer.invariant in
    record {
      all = all.all;
      so_far = none_more (λ one. FindsPeer c.args.world.now.parts c.args.r.now c.args.y.now c.args.port.now one None) c.as_slice-peer-items.result.now c.loop-peer.peer-index _ _ all.so_far
          c.loop-peer-test.true refl
          c.in_default.ensures;
    }

pub returns : goal.returns
returns c =
    let all = c.loop-peer.invariant in
    found_nowhere (FindsPeer c.args.world.now.parts c.args.r.now c.args.y.now c.args.port.now) c.as_slice-peer-items.result.now c.args.port.now.peers all.all c.loop-peer.peer-index all.so_far
    (omega (arith, c.loop-peer-test.false))
