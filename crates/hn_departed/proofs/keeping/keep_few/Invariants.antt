use Rattle.hn_base.proofs.Names.{◌≡◌, length}
use Rattle.hn_departed.proofs.Names.{kept}
use Rattle.hn_departed.proofs.keeping.keep_few.Given as goal

abbrev pub invariant-loop-queue : goal.invariant-loop-queue
invariant-loop-queue l = kept l.queue.items ≡ kept l.initial.queue.items

abbrev pub decreases-loop-queue : goal.decreases-loop-queue
decreases-loop-queue l = length l.queue.items
