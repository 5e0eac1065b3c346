use Rattle.hn_base.proofs.Names.{◌∙◌, sym, name_text}
use Rattle.hn_world.proofs.RouterNames.{place_is_first}
use Rattle.hn_world.proofs.member.Members.place_near.Goals as goal

pub returns-in-Some : goal.returns-in-Some
returns-in-Some c =
    place_is_first c.args.self.now c.args.first c.in-Some.member.now (name_text c.args.name.now) c.requires (sym c.in-Some.ensures) (sym c.is_named.ensures ∙ c.if-is_named.true)
