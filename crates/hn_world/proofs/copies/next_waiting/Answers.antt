use Rattle.hn_world.proofs.WaitingCopies.{before_first, at_first}
use Rattle.hn_world.proofs.copies.next_waiting.Goals as goal

pub loop-first-preserved : goal.loop-first-preserved
loop-first-preserved c =
    before_first (λ c. c.waiting) c.args.copies.now c.loop-first.first c.index-copies-first.result c.loop-first.invariant c.loop-first-test.true c.if-not-copies-first.true

pub returns-else-not-copies-first : goal.returns-else-not-copies-first
returns-else-not-copies-first c =
    at_first (λ c. c.waiting) c.args.copies.now c.loop-first.first c.index-copies-first.result c.loop-first.invariant (λ _. c.if-not-copies-first.false)
