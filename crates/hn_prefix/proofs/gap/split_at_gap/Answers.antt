use Rattle.hn_base.proofs.Names.{arith}
use Rattle.hn_prefix.proofs.GapLemmas.{HasNoGap-take_more}
use Rattle.hn_prefix.proofs.gap.split_at_gap.Goals as goal
use Rattle.hn_prefix.proofs.gap.split_at_gap.Goals.{else-text-i-eq58-via-then-text-i-eq58+else-text-i-eq58-2, else-text-i-eq58-via-else-text-i-eq58}

pub loop-i-preserved : goal.loop-i-preserved
loop-i-preserved c =
    HasNoGap-take_more c.args.text.now c.loop-i.i (omega arith) (omega arith)
    (elim c.else-text-i-eq58.branch [
      | else-text-i-eq58-via-then-text-i-eq58+else-text-i-eq58-2 w ↦ λ first second. w.if-text-i-eq58-2.false second
      | else-text-i-eq58-via-else-text-i-eq58 w ↦ λ first second. w.if-text-i-eq58.false first
    ])
    c.loop-i.invariant
