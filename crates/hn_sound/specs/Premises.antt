-- What a home must be for the laws. Each premise is needed. None speaks of an assignment whose endpoint is not in the
-- home: if it is published, it is advertised, and no more.
use Rattle.std.specs.Prelude.{◌≡◌, ◌≢◌, ℕ, ◌≤◌, Contains}
use Rattle.hn_base.specs.Prefix.{PlainPrefix, IsWithin, Overlaps}
use Rattle.hn_pair.specs.declared.assigned.Assigned.{Assigned}
use Rattle.hn_sound.specs.Home.{Home, Endpoint, EndpointHasAssignment, HasPublished}

pub data Premise : Type 0 where
  OneLink : Premise
  OnceOnLink : Premise
  UsedApart : Premise
  ForUsed : Premise
  PublishedInside : Premise
  OneEach : Premise
  PriorityTwo : Premise

-- the home meets the premise
abbrev pub Meets : Home → Premise → Type 0
-- an endpoint, known by its router and its identifier, is on one link
Meets home OneLink =
    (e f : Endpoint) → Contains home.endpoints e → Contains home.endpoints f
    → e.node ≡ f.node → e.id ≡ f.id → e.link ≡ f.link
-- a router has one endpoint on a link
Meets home OnceOnLink =
    (e f : Endpoint) → Contains home.endpoints e → Contains home.endpoints f
    → e.node ≡ f.node → e.link ≡ f.link → e.id ≡ f.id
-- no two used prefixes overlap
Meets home UsedApart =
    (d other : PlainPrefix) → Contains home.used d → Contains home.used other → Overlaps d other → d ≡ other
-- each assignment is for a used prefix
Meets home ForUsed =
    (e : Endpoint) (d : PlainPrefix) (c : Assigned) → EndpointHasAssignment home e d c → Contains home.used d
-- a published prefix is inside the delegated one that it is for
Meets home PublishedInside =
    (e : Endpoint) (d : PlainPrefix) (c : Assigned) (priority : ℕ) → HasPublished home e d c priority
    → IsWithin c.prefix d
-- an endpoint has one assignment for a delegated prefix
Meets home OneEach =
    (e : Endpoint) (d : PlainPrefix) (c other : Assigned) → EndpointHasAssignment home e d c → EndpointHasAssignment home e d other
    → c ≡ other
-- no priority is below 2, with which an assignment is judged to be valid
Meets home PriorityTwo =
    (e : Endpoint) (d : PlainPrefix) (c : Assigned) (priority : ℕ) → HasPublished home e d c priority → 2 ≤ priority

-- a home meets all
abbrev pub IsHome : Home → Type 0
IsHome home = (premise : Premise) → Meets home premise

-- all but one
abbrev pub IsHomeBut : Premise → Home → Type 0
IsHomeBut but home = (premise : Premise) → premise ≢ but → Meets home premise
