use Rattle.hn_base.proofs.Names.{◌-◌, ◌∙◌, ℕ, min, ap}
use Rattle.hn_addr.proofs.NumbersInPrefix.{count_from}
use Rattle.hn_addr.proofs.fitting.count.Goals as goal

pub returns : goal.returns
returns c k = count_from c.min.result (128 - c.args.prefix.now.len) k (c.min.ensures ∙ ap (λ (len : ℕ). min (128 - len) 16) c.len.ensures.value)
