use Rattle.hn_world.proofs.DoneAsPlanned.{dropped_step}
use Rattle.hn_world.proofs.parts.Parts.drop_copy.Goals as goal

pub returns-clause-ok : goal.returns-clause-ok
returns-clause-ok c = dropped_step c.args.copy c.args.self.now c.take.new.self c.enter.new.trace c.enter.result c.requires.accepted
    c.enter.ensures.entry c.enter.ensures.trace c.take.ensures
