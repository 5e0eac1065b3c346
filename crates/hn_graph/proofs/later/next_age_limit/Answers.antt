use Rattle.hn_base.proofs.Names.{◌≡◌, ◌≤◌, arith, IsSooner}
use Rattle.hn_base.proofs.NextDue.{sooner_cut, sooner_each}
use Rattle.hn_graph.specs.Later.{age_limit}
use Rattle.hn_graph.proofs.later.next_age_limit.Goals as goal

pub loop-node-preserved : goal.loop-node-preserved
loop-node-preserved c =
    let node = c.node-item.result in
    let within : c.loop-node.first ≤ 18446744073709551615 = (let most = c.loop-node.invariant.at_most in let fits = c.ranges.best in omega (arith, most, fits)) in
    let here : IsSooner (λ m. m ≡ age_limit c.args.now node) c.args.now c.loop-node.first c.sooner-first.result =
    sooner_cut c.args.now c.loop-node.first c.sooner-first.result (age_limit c.args.now node) c.saturating_add.result 18446744073709551615 within
    (let sum = c.saturating_add.ensures in let left = c.saturating_sub-left.ensures in omega (arith, sum, left)) c.sooner-first.ensures
    in
    sooner_each (λ n m. m ≡ age_limit c.args.now n) c.args.now c.args.nodes.now c.loop-node.node-index node node c.args.best c.loop-node.first
    c.sooner-first.result c.loop-node-test.true c.node-item.is c.loop-node.invariant here
