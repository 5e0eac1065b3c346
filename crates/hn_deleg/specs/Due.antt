-- When announced lifetimes end.
use Rattle.std.specs.Prelude.{◌≡◌, ◌≢◌, ℕ, ◌+◌, ◌⊎◌}
use Rattle.hn_base.specs.Sooner.{IsOfElement}
use Rattle.hn_data.specs.Said.{HasVersion}
use Rattle.hn_data.specs.Delegations.{HasDelegation}
use Rattle.hn_data.specs.declared.said.Delegation.{Delegation}
use Rattle.hn_data.specs.declared.view.Entry.{Entry}
use Rattle.hn_data.specs.View.{PlainView}
use Rattle.hn_deleg.specs.Live.{remaining}

-- A lifetime in seconds, announced in data of this age, ends at that moment; now, if it has ended. One of 4294967295 s
-- never ends.
pub record IsEnd (now age seconds m : ℕ) : Type 0 where
  pub ends : seconds ≢ 4294967295
  pub is : m ≡ now + remaining age seconds

-- the valid or the preferred lifetime of a delegation ends then
abbrev pub IsDelegationEnd : ℕ → ℕ → Delegation → ℕ → Type 0
IsDelegationEnd now age d m = IsEnd now age d.valid m ⊎ IsEnd now age d.preferred m

-- a lifetime that a node with an HNCP-Version announces ends then, of a prefix of any length, used or not
pub record IsEndIn (now : ℕ) (node : Entry) (m : ℕ) : Type 0 where
  pub version : HasVersion node.body
  pub delegation : Delegation
  pub said : HasDelegation node.body delegation
  pub ends : IsDelegationEnd now node.age delegation m

-- a lifetime that a reachable node announces ends then, the own node too
abbrev pub IsLifetimeEnd : PlainView → ℕ → Type 0
IsLifetimeEnd view = IsOfElement (IsEndIn view.now) view.nodes
