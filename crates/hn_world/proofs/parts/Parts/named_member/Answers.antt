use Rattle.hn_base.proofs.Names.{◌∙◌, Some, None, sym}
use Rattle.hn_world.proofs.RouterOfEvent.{named_member_is}
use Rattle.hn_world.proofs.parts.Parts.named_member.Goals as goal

pub returns-in-Some : goal.returns-in-Some
returns-in-Some c = c.get.ensures ∙ named_member_is c.args.self.now c.args.event.now (Some c.in-Some.place) (sym c.in-Some.is ∙ c.requires)

pub returns-in-None : goal.returns-in-None
returns-in-None c = named_member_is c.args.self.now c.args.event.now None (sym c.in-None.is ∙ c.requires)
