use Rattle.hn_base.proofs.Names.{None, arith}
use Rattle.hn_calm.specs.Peers.{FindsAtPort}
use Rattle.hn_calm.proofs.Searching.{found_here, found_nowhere, none_more}
use Rattle.hn_calm.proofs.peers.missing_at_ports.Goals as goal

pub returns-in-Some : goal.returns-in-Some
returns-in-Some c =
    let all = c.loop-port.invariant in
    found_here (FindsAtPort c.args.world.now.parts c.args.r.now c.args.y.now) c.ports-port-items.result.now c.args.y.now.router.ports all.all c.loop-port.port-index all.so_far
    c.port-item.result _ _ c.loop-port-test.true c.port-item.is
    c.in-Some.ensures

pub loop-port-preserved : goal.loop-port-preserved
loop-port-preserved c =
    let all = c.loop-port.invariant in
    record {
      all = all.all;
      so_far = none_more (λ one. FindsAtPort c.args.world.now.parts c.args.r.now c.args.y.now one None) c.ports-port-items.result.now c.loop-port.port-index c.port-item.result _ all.so_far
          c.loop-port-test.true c.port-item.is
          c.in_default.ensures;
    }

pub returns : goal.returns
returns c =
    let all = c.loop-port.invariant in
    found_nowhere (FindsAtPort c.args.world.now.parts c.args.r.now c.args.y.now) c.ports-port-items.result.now c.args.y.now.router.ports all.all c.loop-port.port-index all.so_far
    (omega (arith, c.loop-port-test.false))
