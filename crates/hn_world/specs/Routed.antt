-- The events of a world that happen at a router, by the router's name.
use Rattle.std.specs.Prelude.{ℕ, Option, None, Some}
use Rattle.std.specs.Option.{option_map}
use Rattle.hn_base.specs.Name.{name_text}
use Rattle.hn_base.specs.declared.name.Name.{Name}
use Rattle.hn_router.specs.Act.{PlainEvent, Arrive, Tick, Attach, Detach, External, Withdraw, SetCaps, Private, Addresses, Restart}
use Rattle.hn_world.specs.declared.event.WEvent.{WEvent}
use Rattle.hn_world.specs.declared.event.WEvent.TheVariants as event
use Rattle.hn_world.specs.declared.parts.Parts.{Parts}
use Rattle.hn_world.specs.Names.{router_place}

-- the router at which an event happens, and what happens to it there
abbrev pub routed : WEvent → Option (Name × PlainEvent)
routed (event.Attach name endpoint link) = Some (name, Attach endpoint)
routed (event.Detach name endpoint) = Some (name, Detach endpoint)
routed (event.External name prefix valid preferred) = Some (name, External prefix valid preferred)
routed (event.Withdraw name prefix) = Some (name, Withdraw prefix)
routed (event.Caps name caps) = Some (name, SetCaps caps)
routed (event.Private name length) = Some (name, Private length)
routed (event.Addresses name list) = Some (name, Addresses list)
routed (event.Start name) = Some (name, Restart)
routed (event.Tick name) = Some (name, Tick)
routed (event.Inject name endpoint from multicast bytes) =
    Some (name, Arrive (record { endpoint = endpoint; from = from; multicast = multicast }) bytes)
routed _ = None

-- the router that an event is for
abbrev pub named_by : WEvent → Option Name
named_by (event.Stop name) = Some name
named_by event = option_map (λ own. own.0) (routed event)

-- its place in order of definition
abbrev pub place_by : Option Name → Parts → Option ℕ
place_by None w = None
place_by (Some name) w = router_place (name_text name) w
