-- A home as its routers see it: endpoints on links, delegated prefixes in use, and the prefixes that the routers
-- assigned to links (RFC 7695, section 3; RFC 7788, section 6).
use Rattle.std.specs.Prelude.{◌≡◌, ℕ, ◌==◌, Bool, Option, Some, option_map, List, Contains, filter, filter_map, map}
use Rattle.hn_base.specs.declared.ids.NodeId.{NodeId}
use Rattle.hn_base.specs.declared.ids.EpId.{EpId}
use Rattle.hn_base.specs.declared.key.Key.{Key}
use Rattle.hn_base.specs.Prefix.{PlainPrefix}
use Rattle.hn_assign.specs.declared.advertised.Advertised.{Advertised}
use Rattle.hn_pair.specs.declared.assigned.Assigned.{Assigned}
use Rattle.hn_pair.specs.declared.assigned.Wish.{Wish}
use Rattle.hn_assign.specs.Advertised.{LinkEndpoints, key_of}

-- an endpoint: of a router, by the identifier of that router, and on a link
pub record Endpoint : Type 0 where
  pub node : NodeId
  pub id : EpId
  pub link : ℕ

-- an assignment, and the router that has it
pub record Held : Type 0 where
  pub node : NodeId
  pub assigned : Assigned

pub record Home : Type 0 where
  pub endpoints : List Endpoint
  -- the length of the prefixes that an endpoint wants
  pub length : Endpoint → ℕ
  -- the delegated prefixes in use
  pub used : List PlainPrefix
  -- whether a router wants a used prefix
  pub wants : NodeId → PlainPrefix → Bool
  pub assignments : List Held

-- an endpoint of the home has the assignment, which is for the delegated prefix d
pub record EndpointHasAssignment (home : Home) (e : Endpoint) (d : PlainPrefix) (c : Assigned) : Type 0 where
  pub there : Contains home.endpoints e
  pub held : Contains home.assignments (record { node = e.node; assigned = c })
  pub of_endpoint : c.endpoint ≡ e.id
  pub of_delegated : c.delegated ≡ d

-- and its router publishes it with the priority
pub record HasPublished (home : Home) (e : Endpoint) (d : PlainPrefix) (c : Assigned) (priority : ℕ) : Type 0 where
  pub has : EndpointHasAssignment home e d c
  pub published : c.published ≡ Some priority

-- the key of an endpoint's assignments that are published with the priority
abbrev pub key_at : ℕ → Endpoint → Key
key_at priority e = key_of priority e.node.0 e.id.0

-- how an assignment is advertised, where it is published
abbrev pub advertised_as : Held → Option Advertised
advertised_as h =
    option_map (λ priority. record { key = key_of priority h.node.0 h.assigned.endpoint.0; prefix = h.assigned.prefix })
    h.assigned.published

-- the advertised prefixes: the published assignments of all routers
abbrev pub advertised : Home → List Advertised
advertised home = filter_map advertised_as home.assignments

-- the Common Link of an endpoint: the endpoints on its link (RFC 7788, section 6.1)
abbrev pub common_link : Home → Endpoint → LinkEndpoints
common_link home e = map (λ f. (f.node, f.id)) (filter (λ f. f.link == e.link) home.endpoints)

-- what an endpoint's router asks for a pair of the endpoint and a used prefix
abbrev pub wish_of : Home → Endpoint → PlainPrefix → Wish
wish_of home e d = record {
  delegated = d;
  wanted = home.wants e.node d;
  endpoint = e.id;
  common = common_link home e;
  length = home.length e;
}
