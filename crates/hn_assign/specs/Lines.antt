-- The table of the assignment subroutine: what happens to a pair, by its best prefix and its assignment (RFC 7695,
-- section 4.1). The first line is in Unassigned.
use Rattle.std.specs.Prelude.{◌≡◌, ℕ, ◌⊎◌, List, [], Option, None, Some}
use Rattle.hn_base.specs.Key.{IsAbove}
use Rattle.hn_assign.specs.declared.advertised.Advertised.{Advertised}
use Rattle.hn_pair.specs.declared.assigned.Assigned.{Assigned}
use Rattle.hn_assign.specs.declared.slot.Slot.{Slot}
use Rattle.hn_assign.specs.Advertised.{key_of}
use Rattle.hn_assign.specs.Scene.{PlainScene, IsBestFor, IsValidFor, new_assigned}
use Rattle.hn_assign.specs.Unassigned.{IsUnassigned}

-- the best prefix is followed from now on, unpublished and without a backoff
abbrev pub following : PlainScene → Advertised → Slot
following at best = record { assigned = Some (new_assigned at best.prefix None); backoff = None }

-- where an assignment is valid the pair has this afterwards, and else the assignment is destroyed
abbrev pub IfValid : PlainScene → Assigned → Slot → Slot → Slot → Type 0
IfValid at c valid before after =
    (IsValidFor at c × (after ≡ valid))
    ⊎ (¬ (IsValidFor at c) × (after ≡ record before { assigned = None }))

-- an assignment is published with a key above that of the best prefix
pub record IsAhead (at : PlainScene) (best : Advertised) (c : Assigned) : Type 0 where
  pub priority : ℕ
  pub published : c.published ≡ Some priority
  pub above : IsAbove (key_of priority at.own at.wish.endpoint.0) best.key

-- 2. A best prefix and no assignment: the best is followed.
pub record IsFollowed (at : PlainScene) (best : Advertised) (after : Slot) : Type 0 where
  pub gives : after ≡ following at best

-- 3. No best prefix and a published assignment: it is kept where it is valid, and else destroyed.
pub record IsKeptAlone (at : PlainScene) (c : Assigned) (before after : Slot) : Type 0 where
  pub published : (priority : ℕ) × (c.published ≡ Some priority)
  pub gives : IfValid at c before before after

-- 4. No best prefix and an unpublished assignment: it is published with priority 2 where it is valid, and else destroyed.
pub record IsAdopted (at : PlainScene) (c : Assigned) (before after : Slot) : Type 0 where
  pub unpublished : c.published ≡ None
  pub gives : IfValid at c (record before { assigned = Some (record c { published = Some 2 }) }) before after

-- 5. A best prefix and an assignment ahead of it: it is kept where it is valid, and else destroyed.
pub record IsKeptAhead (at : PlainScene) (best : Advertised) (c : Assigned) (before after : Slot) : Type 0 where
  pub ahead : IsAhead at best c
  pub gives : IfValid at c before before after

-- 6. A best prefix and any other assignment with its prefix: it is made or left unpublished.
pub record IsYielded (at : PlainScene) (best : Advertised) (c : Assigned) (before after : Slot) : Type 0 where
  pub not_ahead : ¬ (IsAhead at best c)
  pub same : c.prefix ≡ best.prefix
  pub gives : after ≡ record before { assigned = Some (record c { published = None }) }

-- 7. A best prefix and any other assignment: it is destroyed, and the best is followed.
pub record IsReplacedByBest (at : PlainScene) (best : Advertised) (c : Assigned) (after : Slot) : Type 0 where
  pub not_ahead : ¬ (IsAhead at best c)
  pub other : ¬ (c.prefix ≡ best.prefix)
  pub gives : after ≡ following at best

-- the line that applies to a pair with this best prefix and this assignment, if it has them; only the first takes words
abbrev pub IsLine : PlainScene → Option Advertised → Option Assigned → Slot → List ℕ → Slot → Type 0
IsLine at None None before words after = IsUnassigned at before words after
IsLine at (Some best) None before words after = IsFollowed at best after × (words ≡ [])
IsLine at None (Some c) before words after = (IsKeptAlone at c before after ⊎ IsAdopted at c before after) × (words ≡ [])
IsLine at (Some best) (Some c) before words after =
    (IsKeptAhead at best c before after ⊎ (IsYielded at best c before after ⊎ IsReplacedByBest at best c after)) × (words ≡ [])

-- some line of the table leads from what a pair has to what it has afterwards
pub record IsPairTurn (at : PlainScene) (before : Slot) (words : List ℕ) (after : Slot) : Type 0 where
  pub best : Option Advertised
  pub is_best : IsBestFor at best
  pub line : IsLine at best before.assigned before words after
