-- What the search for an outer prefix looks for.
use Rattle.std.specs.Prelude.{◌≡◌, ◌≢◌, ℕ, ◌<◌, ◌≤◌, List, Contains}
use Rattle.hn_base.specs.Prefix.{PlainPrefix, IsWithin}
use Rattle.hn_data.specs.Delegations.{HasDelegation}
use Rattle.hn_data.specs.Said.{HasVersion}
use Rattle.hn_data.specs.View.{PlainView}
use Rattle.hn_data.specs.declared.said.Delegation.{Delegation}
use Rattle.hn_data.specs.declared.view.Entry.{Entry}
use Rattle.hn_deleg.specs.Live.{remaining, IsAnnouncedPrefix}

-- at this age of the data, the delegation is live, of at most 64 bits, and has the prefix inside
pub record HasInside (age : ℕ) (p : PlainPrefix) (d : Delegation) : Type 0 where
  pub short : d.prefix.len ≤ 64
  pub live : 0 < remaining age d.valid
  pub inside : IsWithin p d.prefix

-- and is another one
pub record IsOuter (age : ℕ) (p : PlainPrefix) (d : Delegation) : Type 0 where
  pub has : HasInside age p d
  pub different : d.prefix ≢ p

-- if it has the prefix inside, it is that one
abbrev pub IsNoOuter : ℕ → PlainPrefix → Delegation → Type 0
IsNoOuter age p d = HasInside age p d → d.prefix ≡ p

-- one of the delegations is another one that has the prefix inside
pub record IsOuterAmong (age : ℕ) (list : List Delegation) (p q : PlainPrefix) : Type 0 where
  pub delegation : Delegation
  pub among : Contains list delegation
  pub outer : IsOuter age p delegation
  pub is_it : delegation.prefix ≡ q

-- the same of the delegations that a node with an HNCP-Version has
pub record IsOuterAt (node : Entry) (p q : PlainPrefix) : Type 0 where
  pub version : HasVersion node.body
  pub delegation : Delegation
  pub said : HasDelegation node.body delegation
  pub outer : IsOuter node.age p delegation
  pub is_it : delegation.prefix ≡ q

-- a node with an HNCP-Version has no other one
abbrev pub HasNoOuter : PlainPrefix → Entry → Type 0
HasNoOuter p node = HasVersion node.body → (d : Delegation) → HasDelegation node.body d → IsNoOuter node.age p d

-- another candidate that has the prefix inside
pub record IsOuterCandidate (view : PlainView) (p q : PlainPrefix) : Type 0 where
  pub candidate : IsAnnouncedPrefix view q
  pub inside : IsWithin p q
  pub different : q ≢ p
