use Rattle.hn_base.proofs.Names.{refl}
use Rattle.hn_world.proofs.DoneAsPlanned.{let_copy_pass_step}
use Rattle.hn_world.proofs.parts.Parts.pass_copy.Goals as goal

pub returns-clause-ok : goal.returns-clause-ok
returns-clause-ok c =
    let traced = c.enter.result in
    let_copy_pass_step c.args.copy c.args.place c.args.passing _ c.args.self.now c.get.result c.let_pass.new.self c.take.new.self _ traced refl
    c.requires.accepted c.requires.passes c.get.ensures.moment c.in_ok-let_pass.ensures.ok c.enter.ensures.entry
    c.enter.ensures.trace c.take.ensures
