-- A home at rest: no router would make, change or destroy an assignment.
use Rattle.std.specs.Prelude.{ℕ, List, Option, Some, None, Contains}
use Rattle.hn_base.specs.Prefix.{PlainPrefix}
use Rattle.hn_assign.specs.declared.advertised.Advertised.{Advertised}
use Rattle.hn_pair.specs.declared.assigned.Assigned.{Assigned}
use Rattle.hn_pair.specs.declared.assigned.Wish.{Wish}
use Rattle.hn_assign.specs.Rest.{IsAtRest}
use Rattle.hn_sound.specs.Home.{Home, Endpoint, EndpointHasAssignment, advertised, wish_of}

-- the assignment of an endpoint for a used prefix, if it has one
abbrev pub IsAssignmentOf : Home → Endpoint → PlainPrefix → Option Assigned → Type 0
IsAssignmentOf home e d None = (c : Assigned) → ¬ EndpointHasAssignment home e d c
IsAssignmentOf home e d (Some c) = EndpointHasAssignment home e d c

-- a fact of a pair, as its router sees the home: the advertised prefixes, the identifier of the router, the wish, and
-- the assignment of the pair, if it has one
abbrev pub PairFact : Type 1
PairFact = List Advertised → ℕ → Wish → Option Assigned → Type 0

-- the fact holds of each pair of an endpoint and a used prefix
abbrev pub EachPair : PairFact → Home → Type 0
EachPair P home =
    (e : Endpoint) (d : PlainPrefix) → Contains home.endpoints e → Contains home.used d
    → (c : Option Assigned) × IsAssignmentOf home e d c × P (advertised home) e.node.0 (wish_of home e d) c

abbrev pub IsHomeAtRest : Home → Type 0
IsHomeAtRest home = EachPair IsAtRest home
