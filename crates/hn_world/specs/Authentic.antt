-- What routers hold was published (RFC 7787, section 7.2.3).
use Rattle.std.specs.Prelude.{◌⊎◌, All, Contains}
use Rattle.hn_rules.specs.Genuine.{TextsCollide, HoldsPublished}
use Rattle.hn_world.specs.declared.event.WEvent.{WEvent}
use Rattle.hn_world.specs.declared.event.WEvent.TheVariants as event
use Rattle.hn_world.specs.declared.member.Member.{Member}
use Rattle.hn_world.specs.declared.parts.Parts.{Parts}

-- not a datagram from outside of the world
abbrev pub IsFromWithin : WEvent → Type 0
IsFromWithin (event.Inject name endpoint from multicast bytes) = ⊥
IsFromWithin _ = Unit {0}

-- all that the routers hold of other nodes was published in the world, or two of the texts collide
abbrev pub IsAuthentic : Parts → Type 0
IsAuthentic w = ((m : Member) → Contains w.members m → HoldsPublished w.published m.router) ⊎ TextsCollide w.published

-- so it is where nothing was injected
abbrev pub AuthenticUnlessInjected : Parts → Type 0
AuthenticUnlessInjected w = All (λ t. IsFromWithin t.event) w.trace → IsAuthentic w
