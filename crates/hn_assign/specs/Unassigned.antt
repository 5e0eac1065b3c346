-- The first line of the table: a pair without a best prefix and without an assignment (RFC 7695, section 4.1).
use Rattle.std.specs.Prelude.{◌≡◌, ℕ, ◌+◌, ◌%◌, ◌<◌, ◌≤◌, ◌⊎◌, IsTrue, List, [], ◌∷◌, None, Some}
use Rattle.hn_base.specs.Prefix.{PlainPrefix}
use Rattle.hn_pair.specs.declared.backoff.Backoff.{Backoff}
use Rattle.hn_assign.specs.declared.slot.Slot.{Slot}
use Rattle.hn_assign.specs.Scene.{PlainScene, IsFreeFor, HasNoFreeFor, IsFirstFreeFor, new_assigned}

-- a prefix is wanted, and there is a free one
pub record HasFree (at : PlainScene) : Type 0 where
  pub wanted : IsTrue at.wish.wanted
  pub prefix : PlainPrefix
  pub free : IsFreeFor at prefix

-- none is wanted, or nothing is free
abbrev pub HasNothingToDo : PlainScene → Type 0
HasNothingToDo at = ¬ (IsTrue at.wish.wanted) ⊎ HasNoFreeFor at

-- then the pair has no backoff
pub record IsLeftAlone (at : PlainScene) (before : Slot) (words : List ℕ) (after : Slot) : Type 0 where
  pub nothing_to_do : HasNothingToDo at
  pub gives : after ≡ record before { backoff = None }
  pub took : words ≡ []

-- the backoff of a pair that is due so many milliseconds from now
abbrev pub backoff_after : PlainScene → ℕ → Backoff
backoff_after at delay = record { delegated = at.wish.delegated; endpoint = at.wish.endpoint; due = at.now + delay }

-- without a backoff, one is set, of 0 to 4,000 ms by a word
pub record IsPostponed (at : PlainScene) (before : Slot) (words : List ℕ) (after : Slot) : Type 0 where
  pub may : HasFree at
  pub none : before.backoff ≡ None
  pub word : ℕ
  pub gives : after ≡ record before { backoff = Some (backoff_after at (word % 4001)) }
  pub took : words ≡ word ∷ []

-- with a backoff that is not due, nothing happens
pub record IsWaiting (at : PlainScene) (before : Slot) (words : List ℕ) (after : Slot) : Type 0 where
  pub may : HasFree at
  pub backoff : Backoff
  pub is : before.backoff ≡ Some backoff
  pub not_due : at.now < backoff.due
  pub gives : after ≡ before
  pub took : words ≡ []

-- With a backoff that is due, an assignment is made and published with priority 2, and the backoff ends. Its prefix is
-- the first free one in cyclic order, from the place that is a word modulo their number.
pub record IsMade (at : PlainScene) (before : Slot) (words : List ℕ) (after : Slot) : Type 0 where
  pub wanted : IsTrue at.wish.wanted
  pub backoff : Backoff
  pub is : before.backoff ≡ Some backoff
  pub due : backoff.due ≤ at.now
  pub word : ℕ
  pub prefix : PlainPrefix
  pub free : IsFreeFor at prefix
  pub first : IsFirstFreeFor at word prefix
  pub gives : after ≡ record { assigned = Some (new_assigned at prefix (Some 2)); backoff = None }
  pub took : words ≡ word ∷ []

-- the line
abbrev pub IsUnassigned : PlainScene → Slot → List ℕ → Slot → Type 0
IsUnassigned at before words after =
    IsLeftAlone at before words after
    ⊎ (IsPostponed at before words after ⊎ (IsWaiting at before words after ⊎ IsMade at before words after))
