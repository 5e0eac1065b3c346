use Rattle.hn_base.proofs.Names.{false≢true, refl}
use Rattle.hn_lab_c.proofs.Named.{no_name}
use Rattle.hn_lab_c.proofs.asked.named.Goals as goal

pub returns-in_default-clause-none : goal.returns-in_default-clause-none
returns-in_default-clause-none c =
    (λ _. no_name c.args.text.now c.args.world.now.parts (λ is. absurd (false≢true (c.in_default.ensures.found.1 is))), λ _. refl)
