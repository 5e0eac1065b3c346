-- When an endpoint of a router cannot be asked.
use Rattle.std.specs.Prelude.{ℕ, Option}
use Rattle.std.specs.Option.{option_or}
use Rattle.hn_base.specs.Name.{name_text}
use Rattle.hn_base.specs.declared.ids.EpId.{EpId}
use Rattle.hn_base.specs.declared.name.Name.{Name}
use Rattle.hn_world.specs.declared.member.Member.{Member}
use Rattle.hn_world.specs.declared.parts.Parts.{Parts}
use Rattle.hn_world.specs.Names.{member_named}
use Rattle.hn_world.specs.Asked.{of_router, unless_running, unless_attached}

-- 12: the router is stopped; 11, beside this: its endpoint is not attached
abbrev pub unless_on : EpId → Member → Option ℕ
unless_on e m = option_or (unless_running m) (unless_attached e m)

-- of the router of a name
abbrev pub unless_elects : Name → EpId → Parts → Option ℕ
unless_elects name e w = of_router (unless_on e) (member_named (name_text name) w)
