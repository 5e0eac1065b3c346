-- When the assignment subroutine leaves all assignments as they are.
use Rattle.std.specs.Prelude.{◌≡◌, ◌↔◌, ℕ, false, List, Option, None, Contains, map}
use Rattle.hn_data.specs.View.{PlainView}
use Rattle.hn_assign.specs.declared.advertised.Advertised.{Advertised}
use Rattle.hn_pair.specs.declared.assigned.Assigned.{Assigned}
use Rattle.hn_pair.specs.declared.assigned.Wish.{Wish}
use Rattle.hn_pair.specs.declared.backoff.Backoff.{Backoff}
use Rattle.hn_pair.specs.declared.held.Held.{Held}
use Rattle.hn_assign.specs.declared.ran.Ran.{Ran}
use Rattle.hn_base.specs.Ascending.{HasAt}
use Rattle.hn_pair.specs.Pair.{assigned_pair, wish_pair}
use Rattle.hn_assign.specs.Rest.{IsAtRest}
use Rattle.hn_assign.specs.Subroutine.{IsSubroutine}

-- an assignment apart from its mark of application
abbrev pub unmarked : Assigned → Assigned
unmarked c = record c { applied = false }

-- no assignment is made, changed or destroyed; marks of application are no change
abbrev pub AreAssignmentsUnchanged : List Assigned → List Assigned → Type 0
AreAssignmentsUnchanged before after = map unmarked after ≡ map unmarked before

-- the backoffs are those of the wished pairs without an assignment, each due at this moment
abbrev pub AreDue : List Wish → ℕ → Held → Type 0
AreDue wishes now held = (b : Backoff) → Contains held.backoffs b ↔ ((wish : Wish) × Contains wishes wish
    × HasAt assigned_pair (wish_pair wish) None held.assigned
    × (b ≡ record { delegated = wish.delegated; endpoint = wish.endpoint; due = now }))

-- a wished pair, with the assignment that it has, is at rest
abbrev pub IsWishAtRest : List Advertised → ℕ → List Assigned → Wish → Type 0
IsWishAtRest advertised own assigned wish =
    (c : Option Assigned) → HasAt assigned_pair (wish_pair wish) c assigned → IsAtRest advertised own wish c

-- each is
abbrev pub AreAtRest : List Advertised → ℕ → List Wish → List Assigned → Type 0
AreAtRest advertised own wishes assigned = (wish : Wish) → Contains wishes wish → IsWishAtRest advertised own assigned wish

-- what the subroutine comes to where each wished pair without an assignment has a backoff that is due at the moment of the
-- view
pub record IsDueRun (view : PlainView) (wishes : List Wish) (assigned : List Assigned) (ran : Ran) : Type 0 where
  pub backoffs : List Backoff
  pub are_due : AreDue wishes view.now (record { assigned = assigned; backoffs = backoffs })
  pub is_subroutine : IsSubroutine view wishes (record { assigned = assigned; backoffs = backoffs }) ran
