-- What holds of a router's wishes and assignments at each moment.
use Rattle.std.specs.Prelude.{◌≡◌, ℕ, ◌+◌, ◌≤◌, List, Some, All, Contains}
use Rattle.hn_base.specs.declared.ids.EpId.{EpId}
use Rattle.hn_base.specs.declared.ids.NodeId.{NodeId}
use Rattle.hn_base.specs.Prefix.{IsWithin}
use Rattle.hn_pair.specs.declared.assigned.Assigned.{Assigned}
use Rattle.hn_pair.specs.declared.assigned.Wish.{Wish}
use Rattle.hn_pair.specs.declared.backoff.Backoff.{Backoff}
use Rattle.hn_pair.specs.Pair.{IsAscending, wish_pair}

-- a wish is for a delegated prefix of length 64 at most, and for prefixes of a length from 1 to 64
pub record IsFitting (wish : Wish) : Type 0 where
  pub delegated : wish.delegated.len ≤ 64
  pub at_least : 1 ≤ wish.length
  pub at_most : wish.length ≤ 64

-- the wishes of a router: one for a pair at most, in ascending order
pub record AreWishes (wishes : List Wish) : Type 0 where
  pub ascending : IsAscending wish_pair wishes
  pub fitting : All IsFitting wishes

-- the prefix of an assignment is inside its delegated prefix
abbrev pub IsInDelegated : Assigned → Type 0
IsInDelegated c = IsWithin c.prefix c.delegated

-- an assignment was made at this moment or before
abbrev pub IsAssignedPast : ℕ → Assigned → Type 0
IsAssignedPast now c = c.since ≤ now

-- a backoff is due within 4,000 ms of this moment
abbrev pub IsSoonDue : ℕ → Backoff → Type 0
IsSoonDue now b = b.due ≤ now + 4000

-- an assignment that is published has priority 2
abbrev pub HasOwnPriority : Assigned → Type 0
HasOwnPriority c = (priority : ℕ) → c.published ≡ Some priority → priority ≡ 2

-- an assignment of this endpoint has a prefix of this length
abbrev pub IsOfLengthAt : EpId → ℕ → Assigned → Type 0
IsOfLengthAt e length c = c.endpoint ≡ e → c.prefix.len ≡ length

-- a wish for this endpoint asks for this length, and the node is alone on its Common Link
abbrev pub IsAloneAt : ℕ → EpId → ℕ → Wish → Type 0
IsAloneAt own e length wish =
    wish.endpoint ≡ e → (wish.length ≡ length) × ((at : NodeId × EpId) → Contains wish.common at → at.0.0 ≡ own)
