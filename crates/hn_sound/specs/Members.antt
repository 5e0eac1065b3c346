-- What the lists of a home have, one by one. A router may keep them in any order.
use Rattle.std.specs.Prelude.{◌≡◌, ◌↔◌, ℕ, Option, Some, List, Contains}
use Rattle.hn_base.specs.declared.ids.NodeId.{NodeId}
use Rattle.hn_base.specs.declared.ids.EpId.{EpId}
use Rattle.hn_base.specs.Prefix.{PlainPrefix}
use Rattle.hn_assign.specs.declared.advertised.Advertised.{Advertised}
use Rattle.hn_pair.specs.declared.assigned.Assigned.{Assigned}
use Rattle.hn_assign.specs.Advertised.{LinkEndpoints, key_of}
use Rattle.hn_assign.specs.Rest.{IsAtRest}
use Rattle.hn_sound.specs.AtRest.{IsAssignmentOf}
use Rattle.hn_sound.specs.Home.{Home, Endpoint, Held, wish_of}

-- a router of the home publishes it
pub record IsAdvertisedInHome (home : Home) (a : Advertised) : Type 0 where
  pub held : Held
  pub there : Contains home.assignments held
  pub priority : ℕ
  pub published : held.assigned.published ≡ Some priority
  pub key : a.key ≡ key_of priority held.node.0 held.assigned.endpoint.0
  pub prefix : a.prefix ≡ held.assigned.prefix

-- an endpoint of the home, on the link of e
pub record IsOnLinkOf (home : Home) (e : Endpoint) (node : NodeId) (id : EpId) : Type 0 where
  pub endpoint : Endpoint
  pub there : Contains home.endpoints endpoint
  pub on_link : endpoint.link ≡ e.link
  pub of_node : endpoint.node ≡ node
  pub of_id : endpoint.id ≡ id

-- a pair is at rest as its router sees it, in lists of its own
pub record IsSeenAtRest (home : Home) (e : Endpoint) (d : PlainPrefix) : Type 0 where
  pub adv : List Advertised
  pub advertised : (a : Advertised) → Contains adv a ↔ IsAdvertisedInHome home a
  pub common : LinkEndpoints
  pub on_link : (node : NodeId) (id : EpId) → Contains common (node, id) ↔ IsOnLinkOf home e node id
  pub assignment : Option Assigned
  pub its_own : IsAssignmentOf home e d assignment
  pub at_rest : IsAtRest adv e.node.0 (record (wish_of home e d) { common = common }) assignment
