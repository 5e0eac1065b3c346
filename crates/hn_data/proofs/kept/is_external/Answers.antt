use Rattle.hn_base.proofs.Names.{[], refl}
use Rattle.hn_data.proofs.Names.{External, Contains-head}
use Rattle.hn_data.proofs.kept.is_external.Goals as goal

pub returns-in-External : goal.returns-in-External
returns-in-External c = rw c.in-External.is (λ _. (c.in-External.subs.now, Contains-head (External c.in-External.subs.now) []), λ _. refl)
