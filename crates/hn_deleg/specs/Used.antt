-- Usable delegated prefixes (RFC 7788, sections 6.2 and 6.3).
use Rattle.std.specs.Prelude.{◌≡◌, ℕ, ◌-◌, ◌/◌, ◌^◌, ◌==◌, if◌then◌else◌, ◌<◌, ◌≤◌, ◌⊎◌, List, length, map, min, All, Contains, slice_get, Some}
use Rattle.std.specs.declared.cmp.Ordering.TheVariants.{Less}
use Rattle.std.specs.List.Sorted.{IsStrictlySortedBy}
use Rattle.hn_base.specs.Prefix.{PlainPrefix, IsWithin, prefix_cmp}
use Rattle.hn_data.specs.Said.{HasVersion}
use Rattle.hn_data.specs.Delegations.{HasExternal}
use Rattle.hn_data.specs.declared.view.Entry.{Entry}
use Rattle.hn_data.specs.View.{PlainView}
use Rattle.hn_deleg.specs.Live.{IsAnnouncedPrefix, IsLongestLeft}
use Rattle.hn_deleg.specs.declared.delegated.Delegated.{Delegated}

-- a candidate that is not strictly inside another
pub record IsOutermost (view : PlainView) (p : PlainPrefix) : Type 0 where
  pub candidate : IsAnnouncedPrefix view p
  pub not_inside : (q : PlainPrefix) → IsAnnouncedPrefix view q → IsWithin p q → q ≡ p

-- its remaining lifetimes in ms: the greatest of its announcements; the preferred one is never above the valid one
pub record HasLifetimes (view : PlainView) (u : Delegated) : Type 0 where
  pub preferred : ℕ
  pub greatest_valid : IsLongestLeft view u.prefix (λ d. d.valid) u.valid
  pub greatest_preferred : IsLongestLeft view u.prefix (λ d. d.preferred) preferred
  pub cut : u.preferred ≡ min preferred u.valid

-- a remaining lifetime in whole seconds, rounded down; 4294967295 for one that never ends
abbrev pub whole_seconds : ℕ → ℕ
whole_seconds ms = if ms == 2 ^ 64 - 1 then 4294967295 else ms / 1000

-- the prefixes of a list
abbrev pub prefixes_of : List Delegated → List PlainPrefix
prefixes_of list = map (λ u. u.prefix) list

-- the usable ones: of the outermost the first 32 in ascending order, with their lifetimes
pub record AreUsable (view : PlainView) (list : List Delegated) : Type 0 where
  pub ascending : IsStrictlySortedBy prefix_cmp (prefixes_of list)
  pub few : length list ≤ 32
  pub outermost : All (λ u. IsOutermost view u.prefix) list
  pub lifetimes : All (HasLifetimes view) list
  pub first : (p : PlainPrefix) → IsOutermost view p
      → Contains (prefixes_of list) p ⊎ ((length list ≡ 32) × All (λ q. prefix_cmp q p ≡ Less) (prefixes_of list))

-- a usable prefix is not wanted where its preferred lifetime has ended and that of another has not (RFC 7788,
-- section 6.3)
pub record IsUnwanted (list : List Delegated) (i : ℕ) : Type 0 where
  pub deprecated : Delegated
  pub at : slice_get list i ≡ Some deprecated
  pub ended : deprecated.preferred ≡ 0
  pub other : Delegated
  pub in_list : Contains list other
  pub preferred : 0 < other.preferred

-- a reachable node with an HNCP-Version has a connection to the outside
pub record IsOutside (view : PlainView) : Type 0 where
  pub node : Entry
  pub reachable : Contains view.nodes node
  pub version : HasVersion node.body
  pub external : HasExternal node.body
