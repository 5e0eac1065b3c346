-- What a router advertises on an endpoint (RFC 4861, sections 4.2 and 4.6.2; RFC 7788, section 7).
use Rattle.std.specs.Prelude.{◌≡◌, ◌↔◌, ◌⊎◌, ℕ, ◌<◌, Bool, IsTrue, List, map, Option, Some, is_some, Contains}
use Rattle.std.specs.List.Sorted.{IsStrictlySortedBy}
use Rattle.hn_base.specs.declared.ids.NodeId.{NodeId}
use Rattle.hn_base.specs.declared.ids.EpId.{EpId}
use Rattle.hn_base.specs.declared.letter.Letter.TheVariants.{H}
use Rattle.hn_base.specs.Prefix.{prefix_cmp}
use Rattle.hn_advert.specs.declared.advert.Advert.{Advert}
use Rattle.hn_advert.specs.declared.advert.Info.{Info}
use Rattle.hn_advert.specs.Advert.{advert_bytes}
use Rattle.hn_typed.specs.Item.{PlainCaps}
use Rattle.hn_data.specs.Items.{HasItems}
use Rattle.hn_data.specs.Said.{version_of}
use Rattle.hn_data.specs.declared.view.Entry.{Entry}
use Rattle.hn_pair.specs.declared.assigned.Assigned.{Assigned}
use Rattle.hn_deleg.specs.declared.delegated.Delegated.{Delegated}
use Rattle.hn_deleg.specs.Used.{AreUsable, IsOutside, whole_seconds}
use Rattle.hn_rules.specs.declared.state.State.{State}
use Rattle.hn_rules.specs.Seen.{seen_by, IsElectedAt}

-- the prefix of an applied assignment of the endpoint, with what is left of the lifetimes of its delegated prefix, which
-- is a used one
pub record IsInfoOf (s : State) (usable : List Delegated) (e : EpId) (i : Info) : Type 0 where
  pub assignment : Assigned
  pub held : Contains s.held.assigned assignment
  pub of_endpoint : assignment.endpoint ≡ e
  pub applied : IsTrue assignment.applied
  pub delegated : Delegated
  pub is_used : Contains usable delegated
  pub of_delegated : delegated.prefix ≡ assignment.delegated
  pub prefix : i.prefix ≡ assignment.prefix
  pub valid : i.valid ≡ whole_seconds delegated.valid
  pub preferred : i.preferred ≡ whole_seconds delegated.preferred

-- all of these, in ascending order
pub record AreInfos (s : State) (e : EpId) (infos : List Info) : Type 0 where
  pub usable : List Delegated
  pub are_usable : AreUsable (seen_by s) usable
  pub ascending : IsStrictlySortedBy prefix_cmp (map (λ i. i.prefix) infos)
  pub each : (i : Info) → Contains infos i ↔ IsInfoOf s usable e i

-- 1800 seconds where a reachable node with an HNCP-Version has a connection to the outside, and else 0
abbrev pub IsLifetime : State → ℕ → Type 0
IsLifetime s lifetime = (IsOutside (seen_by s) × (lifetime ≡ 1800)) ⊎ (¬ IsOutside (seen_by s) × (lifetime ≡ 0))

-- a node offers capability H
abbrev pub GivesAddresses : Entry → Type 0
GivesAddresses node = (caps : PlainCaps) × HasItems node.body (λ items. version_of items ≡ Some caps) × (0 < caps.h)

-- it is whether somebody is elected for capability H on the Common Link of an endpoint
abbrev pub IsManaged : State → EpId → Bool → Type 0
IsManaged s e managed = (who : Option NodeId) × IsElectedAt s e H who × (managed ≡ is_some who)

-- the advertisement on an endpoint at the router's moment
pub record IsAdvertAt (s : State) (e : EpId) (a : Advert) : Type 0 where
  -- both flags are set if and only if a router is elected for addresses by DHCPv6 (RFC 7788, section 7.1)
  pub who : Option NodeId
  pub is_elected : IsElectedAt s e H who
  pub managed : a.managed ≡ is_some who
  pub other : a.other ≡ is_some who
  pub lifetime : IsLifetime s a.lifetime
  pub infos : AreInfos s e a.infos

-- its bytes
abbrev pub IsAdvertBytes : State → EpId → List ℕ → Type 0
IsAdvertBytes s e bytes = (a : Advert) × IsAdvertAt s e a × (bytes ≡ advert_bytes a)
