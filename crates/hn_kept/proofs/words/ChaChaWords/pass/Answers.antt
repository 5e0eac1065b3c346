use Rattle.hn_kept.proofs.Stream.{after_none, after_one_more}
use Rattle.hn_kept.proofs.words.ChaChaWords.pass.Goals as goal

pub loop-init : goal.loop-init
loop-init c = after_none c.args.self.now

pub loop-preserved : goal.loop-preserved
loop-preserved c = after_one_more c.loop.counter c.args.self.now c.loop.self c.take.new.self c.loop.invariant c.take.ensures.rest
