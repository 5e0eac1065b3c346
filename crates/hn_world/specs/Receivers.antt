-- Which routers are there to receive.
use Rattle.std.specs.Prelude.{Bool, true, not, ◌||◌, List, map, filter}
use Rattle.std.specs.Option.{option_map_or}
use Rattle.std.specs.List.{slice_get}
use Rattle.hn_base.specs.declared.ids.EpId.{EpId}
use Rattle.hn_base.specs.declared.name.Name.{Name}
use Rattle.hn_own.specs.Ports.{is_attached}
use Rattle.hn_world.specs.declared.copies.MailCopy.{MailCopy}
use Rattle.hn_world.specs.declared.member.Member.{Member}
use Rattle.hn_world.specs.declared.parts.Parts.{Parts}

-- whether a router is stopped, or its endpoint is detached
abbrev pub is_absent : EpId → Member → Bool
is_absent endpoint m = not m.running || not (is_attached endpoint m.router.ports)

-- whether the receiver of a copy cannot get it
abbrev pub is_away : Parts → MailCopy → Bool
is_away w c = option_map_or (is_absent c.to.endpoint) (slice_get w.members c.to.place) true

-- the names of the routers that run, in order of definition
abbrev pub running_names : Parts → List Name
running_names w = map (λ m. m.name) (filter (λ m. m.running) w.members)
