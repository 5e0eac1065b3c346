use Rattle.std.specs.Prelude.{◌≡◌, map, filter, take}
use Rattle.hn_world.proofs.world.World.running_names.Given as goal

abbrev pub invariant-loop-member : goal.invariant-loop-member
invariant-loop-member l = l.names.items ≡ map (λ m. m.name) (filter (λ m. m.running) (take l.member-index l.fn.self.parts.members))
