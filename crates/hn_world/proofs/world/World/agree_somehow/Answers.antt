use Rattle.hn_world.proofs.SomeAgreements.{named_agree}
use Rattle.hn_world.proofs.world.World.agree_somehow.Goals as goal

pub returns : goal.returns
returns c = named_agree c.agreement_exists.ensures.routers c.args.self.now.parts c.is_replayed.ensures c.args.a.now c.args.b.now
