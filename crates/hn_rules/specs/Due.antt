-- When something is next due for a router.
use Rattle.std.specs.Prelude.{◌≡◌, ℕ, ◌+◌, ◌-◌, ◌^◌, ◌<◌, ◌≤◌, ◌⊎◌, List}
use Rattle.hn_base.specs.Sooner.{IsSooner, IsOfElement}
use Rattle.hn_timers.specs.Due.{IsExpiryMoment}
use Rattle.hn_dncp.specs.Due.{IsPortDue}
use Rattle.hn_dncp.specs.declared.peers.Neighbour.{Neighbour}
use Rattle.hn_dncp.specs.declared.port.Port.{Port}
use Rattle.hn_store.specs.Due.{IsForgetting}
use Rattle.hn_store.specs.Nodes.{held}
use Rattle.hn_store.specs.declared.stored.HeldNode.{HeldNode}
use Rattle.hn_graph.specs.Later.{IsAgeLimit}
use Rattle.hn_deleg.specs.Due.{IsLifetimeEnd}
use Rattle.hn_pair.specs.Due.{IsHeldDue}
use Rattle.hn_own.specs.Due.{IsOwnEnd}
use Rattle.hn_rules.specs.declared.state.State.{State}
use Rattle.hn_rules.specs.Nodes.{view_of}
use Rattle.hn_rules.specs.Seen.{seen_by}
use Rattle.hn_rules.specs.Tick.{HasInterval}

-- the keep-alives of a peer have stopped from this moment on (RFC 7787, section 6.1.5)
pub record IsPeerEnd (entries : List HeldNode) (peer : Neighbour) (m : ℕ) : Type 0 where
  pub interval : ℕ
  pub promised : HasInterval (held entries peer.node.0) peer.endpoint interval
  pub ends : IsExpiryMoment peer.contact interval m

-- something is due at an endpoint: a peer's keep-alives have stopped, an interval fires or ends, or a keep-alive is to be
-- sent
abbrev pub IsDueAtPort : List HeldNode → Port → ℕ → Type 0
IsDueAtPort entries port m = IsOfElement (IsPeerEnd entries) port.peers m ⊎ IsPortDue port m

-- the own node data come to the age at which they are published again (RFC 7787, section 7.2.3)
abbrev pub IsOwnAgeDue : State → ℕ → Type 0
IsOwnAgeDue s m = m ≡ s.own.born + (2 ^ 32 - 2 ^ 16)

-- something is due of what a router keeps: an own delegated prefix ends, the own node data are old, a lost node is
-- forgotten, a backoff is due, or an assignment is marked applied
abbrev pub IsKeptDue : State → ℕ → Type 0
IsKeptDue s m = IsOwnEnd s.delegated m ⊎ (IsOwnAgeDue s m ⊎ (IsForgetting s.table.entries m ⊎ IsHeldDue s.held m))

-- something is due of what it sees: an announced lifetime ends, or data come to the age from which no path leads on
abbrev pub IsSeenDue : State → ℕ → Type 0
IsSeenDue s m = IsLifetimeEnd (seen_by s) m ⊎ IsAgeLimit (view_of s) s.moment m

-- something is due for a router then
abbrev pub IsDueAt : State → ℕ → Type 0
IsDueAt s m = IsOfElement (IsDueAtPort s.table.entries) s.ports m ⊎ (IsKeptDue s m ⊎ IsSeenDue s m)

-- the first of these moments that is after the router's; 2^49, where none comes before
abbrev pub IsNextDue : State → ℕ → Type 0
IsNextDue s due = IsSooner (IsDueAt s) s.moment (2 ^ 49) due

-- nothing is due for a router between its moment and that one
abbrev pub IsUndueUntil : ℕ → State → Type 0
IsUndueUntil until s = (m : ℕ) → IsDueAt s m → s.moment < m → until ≤ m
