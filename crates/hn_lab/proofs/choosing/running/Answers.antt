use Rattle.hn_base.proofs.Names.{name_text}
use Rattle.hn_lab.proofs.Names.{member_named}
use Rattle.hn_play.proofs.NamedRouters.{member_of}
use Rattle.hn_lab.proofs.choosing.running.Goals as goal

pub returns : goal.returns
returns c = member_of (member_named (name_text c.args.name.now) c.args.world.now.parts) c.in-Some.router.now c.in-Some.ensures
