-- Laws of a home at rest.
use Rattle.std.specs.Prelude.{◌↔◌, ℕ, Option, List, Contains}
use Rattle.hn_base.specs.declared.ids.NodeId.{NodeId}
use Rattle.hn_base.specs.declared.ids.EpId.{EpId}
use Rattle.hn_base.specs.Ascending.{HaveSame}
use Rattle.hn_base.specs.Prefix.{PlainPrefix}
use Rattle.hn_assign.specs.declared.advertised.Advertised.{Advertised}
use Rattle.hn_pair.specs.declared.assigned.Assigned.{Assigned}
use Rattle.hn_pair.specs.declared.assigned.Wish.{Wish}
use Rattle.hn_assign.specs.Advertised.{LinkEndpoints}
use Rattle.hn_assign.specs.Rest.{IsAtRest}
use Rattle.hn_sound.specs.AtRest.{IsHomeAtRest}
use Rattle.hn_sound.specs.Home.{Home, Endpoint, advertised, common_link}
use Rattle.hn_sound.specs.Members.{IsAdvertisedInHome, IsOnLinkOf, IsSeenAtRest}
use Rattle.hn_sound.specs.Premises.{IsHome}
use Rattle.hn_sound.specs.Sound.{IsSoundHome}

-- The advertised prefixes of a home are those that its routers publish.
abbrev pub AdvertisedIsExact : Type 0
AdvertisedIsExact = (home : Home) (a : Advertised) → Contains (advertised home) a ↔ IsAdvertisedInHome home a

-- The Common Link of an endpoint is the endpoints on its link.
abbrev pub CommonLinkIsExact : Type 0
CommonLinkIsExact =
    (home : Home) (e : Endpoint) (node : NodeId) (id : EpId)
    → Contains (common_link home e) (node, id) ↔ IsOnLinkOf home e node id

-- Rest is the same whatever the order in which a router keeps the advertised prefixes and a Common Link.
abbrev pub RestKnowsNoOrder : Type 0
RestKnowsNoOrder =
    (adv others : List Advertised) (own : ℕ) (wish : Wish) (common : LinkEndpoints) (c : Option Assigned)
    → HaveSame adv others → HaveSame wish.common common
    → IsAtRest adv own wish c → IsAtRest others own (record wish { common = common }) c

-- A home is at rest if each router sees its own pairs at rest, in lists of its own.
abbrev pub HomeRestsAsSeen : Type 0
HomeRestsAsSeen =
    (home : Home)
    → ((e : Endpoint) (d : PlainPrefix) → Contains home.endpoints e → Contains home.used d → IsSeenAtRest home e d)
    → IsHomeAtRest home

-- A home at rest is sound.
abbrev pub HomeAtRestIsSound : Type 0
HomeAtRestIsSound = (home : Home) → IsHome home → IsHomeAtRest home → IsSoundHome home
