use Rattle.hn_world.proofs.KeptTraces.{kept_more}
use Rattle.hn_world.proofs.OneMoreEvent.{replays_more}
use Rattle.hn_world.proofs.world.World.apply.Goals as goal

pub invariant_of-self-2 : goal.invariant_of-self-2
invariant_of-self-2 g c =
    kept_more _ c.in_ok-effect.effect.traced c.in_ok-effect.effect.notes c.self.inside.parts c.happen.new.self c.push.new.self c.self.invariant.0 c.in_ok-effect.ensures.ok.step
    c.in_ok-effect.ensures.traced (c.push.ensures.kept _ (c.make_room.ensures.kept _ c.self.invariant.1))

pub returns-clause-authentic : goal.returns-clause-authentic
returns-clause-authentic g c =
    c.always_authentic.ensures.now c.happen.new.self
    (replays_more _ c.in_ok-effect.effect.notes c.self.inside.parts c.happen.new.self c.self.invariant.0 c.in_ok-effect.ensures.ok.step)
