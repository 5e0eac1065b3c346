-- What the steps towards the usable prefixes answer.
use Rattle.std.specs.Prelude.{◌≡◌, ℕ, ◌<◌, ◌≤◌, ◌↔◌, ◌&&◌, if◌then◌else◌, nat_le, nat_lt, List, All, Contains, min, Option, Some, None}
use Rattle.std.specs.declared.cmp.Ordering.TheVariants.{Less}
use Rattle.std.specs.List.Sorted.{IsStrictlySortedBy}
use Rattle.hn_base.specs.Prefix.{PlainPrefix, IsPrefix, IsWithin, prefix_cmp}
use Rattle.hn_data.specs.Said.{HasVersion}
use Rattle.hn_data.specs.Delegations.{HasDelegation, HasExternal}
use Rattle.hn_data.specs.declared.said.Delegation.{Delegation}
use Rattle.hn_data.specs.declared.view.Entry.{Entry}
use Rattle.hn_deleg.specs.Live.{remaining}
use Rattle.hn_deleg.specs.declared.delegated.Delegated.{Delegated}

-- the preferred lifetime of one of them has not ended
pub record HasPreferred (list : List Delegated) : Type 0 where
  pub one : Delegated
  pub in_list : Contains list one
  pub preferred : 0 < one.preferred

-- the node has an HNCP-Version and an External-Connection
pub record IsConnectedNode (node : Entry) : Type 0 where
  pub version : HasVersion node.body
  pub external : HasExternal node.body

-- what remains of a delegation at this age of the data, where it is live and of at most 64 bits
abbrev pub live_of : ℕ → Delegation → Option Delegated
live_of age d =
    if nat_le d.prefix.len 64 && nat_lt 0 (remaining age d.valid)
    then Some (record { prefix = d.prefix; valid = remaining age d.valid; preferred = remaining age d.preferred })
    else None

-- the node has an HNCP-Version, and this remains of one of its delegations
pub record IsLiveAt (node : Entry) (u : Delegated) : Type 0 where
  pub version : HasVersion node.body
  pub delegation : Delegation
  pub said : HasDelegation node.body delegation
  pub remains : live_of node.age delegation ≡ Some u

-- one of the nodes has it
pub record IsLiveIn (nodes : List Entry) (u : Delegated) : Type 0 where
  pub node : Entry
  pub among : Contains nodes node
  pub at : IsLiveAt node u

-- each is a prefix
abbrev pub HasPrefixes : List Delegated → Type 0
HasPrefixes list = All (λ u. IsPrefix u.prefix) list

-- one of the prefixes, and inside no other
pub record IsOutermostIn (prefixes : List PlainPrefix) (p : PlainPrefix) : Type 0 where
  pub among : Contains prefixes p
  pub not_inside : (q : PlainPrefix) → Contains prefixes q → IsWithin p q → q ≡ p

-- those inside no other, in ascending order
pub record AreOutermost (prefixes kept : List PlainPrefix) : Type 0 where
  pub ascending : IsStrictlySortedBy prefix_cmp kept
  pub exact : (p : PlainPrefix) → Contains kept p ↔ IsOutermostIn prefixes p

-- the prefix is inside one of these
pub record IsCovered (kept : List PlainPrefix) (p : PlainPrefix) : Type 0 where
  pub outer : PlainPrefix
  pub among : Contains kept outer
  pub inside : IsWithin p outer

-- the prefixes ascend, none is inside another, and the prefix comes after them
pub record IsReadyFor (kept : List PlainPrefix) (p : PlainPrefix) : Type 0 where
  pub ascending : IsStrictlySortedBy prefix_cmp kept
  pub apart : (a b : PlainPrefix) → Contains kept a → Contains kept b → IsWithin a b → b ≡ a
  pub before : (a : PlainPrefix) → Contains kept a → prefix_cmp a p ≡ Less
  pub valid : (a : PlainPrefix) → Contains kept a → IsPrefix a
  pub valid_p : IsPrefix p

-- the greatest of a lifetime of a prefix
pub record IsGreatestIn (list : List Delegated) (p : PlainPrefix) (lifetime : Delegated → ℕ) (ms : ℕ) : Type 0 where
  pub one : Delegated
  pub among : Contains list one
  pub is_it : one.prefix ≡ p
  pub this : ms ≡ lifetime one
  pub none_greater : (u : Delegated) → Contains list u → u.prefix ≡ p → lifetime u ≤ ms

-- the greatest lifetimes of a prefix, the preferred one cut to the valid one
pub record HasLifetimesIn (list : List Delegated) (u : Delegated) : Type 0 where
  pub preferred : ℕ
  pub greatest_valid : IsGreatestIn list u.prefix (λ one. one.valid) u.valid
  pub greatest_preferred : IsGreatestIn list u.prefix (λ one. one.preferred) preferred
  pub cut : u.preferred ≡ min preferred u.valid
