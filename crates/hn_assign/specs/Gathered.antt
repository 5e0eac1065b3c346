-- The prefixes that a router knows to be advertised (RFC 7695, section 2; RFC 7788, section 10.3).
use Rattle.std.specs.Prelude.{◌≡◌, ◌≢◌, ℕ, ◌⊎◌, ◌↔◌, List, Option, None, Some, Contains}
use Rattle.std.specs.Option.{option_map}
use Rattle.hn_base.specs.Prefix.{PlainPrefix}
use Rattle.hn_data.specs.Said.{HasAssigned, HasVersion}
use Rattle.hn_data.specs.View.{PlainView}
use Rattle.hn_data.specs.declared.view.Entry.{Entry}
use Rattle.hn_assign.specs.declared.advertised.Advertised.{Advertised}
use Rattle.hn_pair.specs.declared.assigned.Assigned.{Assigned}
use Rattle.hn_assign.specs.Advertised.{key_of}

-- the data of a node have it as an Assigned-Prefix
pub record IsSaidByNode (entry : Entry) (a : Advertised) : Type 0 where
  pub node : a.key.node ≡ entry.id
  pub assigned : HasAssigned entry.body (record { endpoint = a.key.endpoint; priority = a.key.priority; prefix = a.prefix })

-- another node than this one advertises it, one with an HNCP-Version
pub record IsOfOther (own : ℕ) (entry : Entry) (a : Advertised) : Type 0 where
  pub another : entry.id.0 ≢ own
  pub version : HasVersion entry.body
  pub says : IsSaidByNode entry a

-- what is advertised of a router's own assignment with this priority
abbrev pub own_advertised : ℕ → ℕ → Assigned → Advertised
own_advertised own priority c = record { key = key_of priority own c.endpoint.0; prefix = c.prefix }

-- it is that of an assignment which the router publishes
pub record IsOwn (own : ℕ) (c : Assigned) (a : Advertised) : Type 0 where
  pub priority : ℕ
  pub published : c.published ≡ Some priority
  pub is : a ≡ own_advertised own priority c

-- another node of the view advertises it, or the router itself, with these assignments
abbrev pub IsAdvertised : PlainView → List Assigned → Advertised → Type 0
IsAdvertised view assigned a =
    ((entry : Entry) × Contains view.nodes entry × IsOfOther view.own entry a)
    ⊎ ((c : Assigned) × Contains assigned c × IsOwn view.own c a)

-- these are the advertised prefixes
abbrev pub AreAdvertised : PlainView → List Assigned → List Advertised → Type 0
AreAdvertised view assigned advertised = (a : Advertised) → Contains advertised a ↔ IsAdvertised view assigned a

-- what is published of a pair's assignment, if anything is: its priority and its prefix
abbrev pub published_of_pair : Option Assigned → Option (ℕ × PlainPrefix)
published_of_pair None = None
published_of_pair (Some c) = option_map (λ priority. (priority, c.prefix)) c.published

-- what is advertised before is advertised afterwards, whatever the view
abbrev pub AdvertiseSame : List Assigned → List Assigned → Type 0
AdvertiseSame before after =
    (view : PlainView) (advertised : List Advertised) → AreAdvertised view before advertised → AreAdvertised view after advertised
