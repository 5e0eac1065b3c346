use Rattle.hn_base.proofs.Names.{◌∙◌, sym}
use Rattle.hn_world.proofs.RouterOfEvent.{nowhere_is_nameless}
use Rattle.hn_world.proofs.parts.Parts.happen.Goals as goal

pub happen_else-requires-clause-nameless : goal.happen_else-requires-clause-nameless
happen_else-requires-clause-nameless g c = nowhere_is_nameless c.args.self.now c.args.event (sym c.requires.placed ∙ c.in_default.is) c.requires.accepted
