use Rattle.hn_base.proofs.Names.{arith}
use Rattle.hn_look.proofs.Lists.{copies_more}
use Rattle.hn_look.proofs.step_text.push_copies.Goals as goal

pub loop-made-preserved : goal.loop-made-preserved
loop-made-preserved c =
    let count = c.copies-count.ensures in
    let more = c.loop-made-test.true in
    copies_more c.args.world.now.parts c.loop-made.made _ _ _ (omega arith) c.loop-made.invariant c.in_ok-push_copy.ensures
