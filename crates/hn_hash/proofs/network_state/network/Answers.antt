use Rattle.hn_base.proofs.Names.{◌<◌, ◌^◌, subst, arith, common_steps, All-more}
use Rattle.hn_hash.proofs.Names.{Leaf}
use Rattle.hn_hash.proofs.network_state.network.Goals as goal

pub loop-leaf-preserved : goal.loop-leaf-preserved
loop-leaf-preserved c =
    let P : Leaf → Type 0 = λ leaf. leaf.number < 2 ^ 32 in
    let fits : P c.leaf-item.result = omega arith in
    record {
      held = grind (arith, common_steps);
      numbered = All-more P c.args.leaves.now c.loop-leaf.leaf-index c.leaf-item.result c.loop-leaf-test.true c.loop-leaf.invariant.numbered (subst P c.leaf-item.is fits);
    }
