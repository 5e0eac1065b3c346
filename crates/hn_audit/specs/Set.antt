-- The set of a router as a list, and what is compared of its routers.
use Rattle.std.specs.Prelude.{◌≡◌, ◌↔◌, ℕ, Bool, ◌==◌, ◌&&◌, List, Option, None, Some, map, filter, slice_get, Contains}
use Rattle.std.specs.Borrow.{Bor}
use Rattle.std.specs.List.{list_any, filter_map, flat_map}
use Rattle.std.specs.Option.{option_map}
use Rattle.hn_base.specs.declared.ids.NodeId.{NodeId}
use Rattle.hn_base.specs.declared.ids.EpId.{EpId}
use Rattle.hn_deleg.specs.declared.delegated.Delegated.{Delegated}
use Rattle.hn_deleg.specs.Used.{IsUnwanted, prefixes_of}
use Rattle.hn_world.specs.declared.member.Attachment.{Attachment}
use Rattle.hn_world.specs.declared.member.Member.{Member}
use Rattle.hn_world.specs.declared.parts.Parts.{Parts}
use Rattle.hn_world.specs.Names.{link_of}
use Rattle.hn_audit.specs.declared.spots.Spot.{Spot}
use Rattle.hn_audit.specs.Reached.{IsOnLink}

-- whether a router runs and has one of these identifiers
abbrev pub is_in_set : List NodeId → Member → Bool
is_in_set reach m = m.running && list_any (λ id. id.0 == m.router.id.0) reach

-- the set of r, in order of definition: the running routers that it reaches
abbrev pub set_of : Parts → Member → List Member
set_of w r = filter (is_in_set r.router.reach) w.members

-- routers without where they lie in memory
abbrev pub members_of : List (Bor Member) → List Member
members_of set = map (λ m. m.now) set

-- at a place two lists have the same prefix, wanted in both or in none
pub record AreSameAt (a b : List Delegated) (place : ℕ) : Type 0 where
  pub prefix : slice_get (prefixes_of a) place ≡ slice_get (prefixes_of b) place
  pub wanted : IsUnwanted a place ↔ IsUnwanted b place

-- an attached endpoint and its link, without where its router lies in memory
pub record PlainSpot : Type 0 where
  pub member : Member
  pub endpoint : EpId
  pub link : ℕ

abbrev pub plain_spot : Spot → PlainSpot
plain_spot spot = record { member = spot.member.now; endpoint = spot.endpoint; link = spot.link }

abbrev pub plain_spots : List Spot → List PlainSpot
plain_spots spots = map plain_spot spots

-- what the endpoint of an attachment is attached to
abbrev pub spot_at : Member → Attachment → Option PlainSpot
spot_at m a = option_map (λ link. record { member = m; endpoint = a.endpoint; link = link }) (link_of a.endpoint m)

-- the attached endpoints of a router, and of routers
abbrev pub spots_at : Member → List PlainSpot
spots_at m = filter_map (spot_at m) m.attachments

abbrev pub spots_in : List Member → List PlainSpot
spots_in set = flat_map spots_at set

-- some of these attached endpoints is on the link
abbrev pub HasOn : List PlainSpot → ℕ → Type 0
HasOn spots link = (spot : PlainSpot) × Contains spots spot × (spot.link ≡ link)

-- the link to which an endpoint of a router is attached, if it is one of these
abbrev pub IsNearLink : List PlainSpot → Member → EpId → Option ℕ → Type 0
IsNearLink spots m e None = ¬ ((link : ℕ) × IsOnLink link m e × HasOn spots link)
IsNearLink spots m e (Some link) = IsOnLink link m e × HasOn spots link
