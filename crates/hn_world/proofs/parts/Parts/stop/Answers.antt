use Rattle.hn_world.proofs.DoneAsPlanned.{stopped_step}
use Rattle.hn_world.proofs.parts.Parts.stop.Goals as goal

pub returns-clause-ok : goal.returns-clause-ok
returns-clause-ok c =
    stopped_step c.args.name c.args.place c.args.self.now c.stop.new.self c.enter.new.trace c.enter.result c.requires.accepted
    c.requires.placed c.enter.ensures.entry c.enter.ensures.trace c.stop.ensures
