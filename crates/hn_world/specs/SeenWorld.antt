-- What contracts see of a world.
use Rattle.std.specs.Prelude.{◌≡◌, Bool, true, List, Option, IfSome, IsSome}
use Rattle.std.specs.Option.{option_map}
use Rattle.hn_world.specs.declared.event.Traced.{Traced}
use Rattle.hn_world.specs.declared.kept.KeptTrace.{KeptTrace}
use Rattle.hn_world.specs.declared.parts.Parts.{Parts}

-- what it is, and whether its trace is kept for reading
pub record SeenWorld : Type 0 where
  pub parts : Parts
  pub kept : Bool

-- what a world is, if there is one
abbrev pub world_parts : Option SeenWorld → Option Parts
world_parts world = option_map (λ w. w.parts) world

-- what is kept of a trace: all of it or nothing, and all of it where it is kept for reading
pub record KeepsTrace (kept : KeptTrace) (trace : List Traced) : Type 0 where
  pub same : IfSome kept.items (λ items. items.items ≡ trace)
  pub there : kept.always ≡ true → IsSome kept.items
