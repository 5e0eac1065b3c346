use Rattle.hn_base.proofs.Names.{◌≡◌, sym, ap, ◌∙◌, arith}
use Rattle.hn_departed.proofs.Names.{without_first, kept}
use Rattle.hn_departed.proofs.FirstGoes.{one_goes}
use Rattle.hn_departed.proofs.keeping.keep_few.Goals as goal

pub loop-queue-preserved : goal.loop-queue-preserved
loop-queue-preserved c =
    let queue = c.loop-queue.queue.items in
    let goes : without_first queue ≡ c.remove.new.self.items = cc in
    sym (ap kept goes) ∙ sym (one_goes queue (omega arith)) ∙ c.loop-queue.invariant
