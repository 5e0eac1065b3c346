-- A pair of a delegated prefix and an endpoint at rest: the rules would neither make nor change nor destroy its
-- assignment (RFC 7695, section 4.1).
use Rattle.std.specs.Prelude.{◌≡◌, ℕ, IsTrue, IsSome, ◌⊎◌, List, Option, Some, None}
use Rattle.hn_base.specs.Key.{IsAbove}
use Rattle.hn_assign.specs.declared.advertised.Advertised.{Advertised}
use Rattle.hn_pair.specs.declared.assigned.Assigned.{Assigned}
use Rattle.hn_pair.specs.declared.assigned.Wish.{Wish}
use Rattle.hn_assign.specs.Advertised.{key_of}
use Rattle.hn_assign.specs.Best.{IsBest, HasNoBest, IsValid, HasNoFree}
use Rattle.hn_assign.specs.Lines.{IsAhead}
use Rattle.hn_assign.specs.Scene.{PlainScene, IsValidFor}

-- no best prefix and no assignment: the delegated prefix is not wanted, or nothing in it is free
pub record IsAtRestWithout (adv : List Advertised) (own : ℕ) (wish : Wish) : Type 0 where
  pub no_best : HasNoBest adv own wish.common wish.delegated
  pub nothing_to_do : ¬ (IsTrue wish.wanted) ⊎ HasNoFree adv wish.delegated wish.length

-- no best prefix, and an assignment that is published and valid
pub record IsAlone (adv : List Advertised) (own : ℕ) (wish : Wish) (c : Assigned) : Type 0 where
  pub no_best : HasNoBest adv own wish.common wish.delegated
  pub published : (priority : ℕ) × (c.published ≡ Some priority)
  pub valid : IsValid adv own wish.common c

-- an assignment that is published with a key above the best one's, and valid
pub record IsAheadOfBest (adv : List Advertised) (own : ℕ) (wish : Wish) (c : Assigned) : Type 0 where
  pub best : Advertised
  pub is_best : IsBest adv own wish.common wish.delegated best
  pub priority : ℕ
  pub published : c.published ≡ Some priority
  pub above : IsAbove (key_of priority own wish.endpoint.0) best.key
  pub valid : IsValid adv own wish.common c

-- an assignment that is not published and has the best prefix
pub record IsFollowing (adv : List Advertised) (own : ℕ) (wish : Wish) (c : Assigned) : Type 0 where
  pub best : Advertised
  pub is_best : IsBest adv own wish.common wish.delegated best
  pub unpublished : c.published ≡ None
  pub same : c.prefix ≡ best.prefix

-- the pair with its assignment, if it has one, is at rest
abbrev pub IsAtRest : List Advertised → ℕ → Wish → Option Assigned → Type 0
IsAtRest adv own wish None = IsAtRestWithout adv own wish
IsAtRest adv own wish (Some c) = IsAlone adv own wish c ⊎ (IsAheadOfBest adv own wish c ⊎ IsFollowing adv own wish c)

-- the same wish, but that the delegated prefix may be wanted no more
pub record IsWantedNoMore (before after : Wish) : Type 0 where
  pub delegated : after.delegated ≡ before.delegated
  pub endpoint : after.endpoint ≡ before.endpoint
  pub common : after.common ≡ before.common
  pub length : after.length ≡ before.length
  pub wanted : IsTrue after.wanted → IsTrue before.wanted

-- ---- by what a pair is judged by

-- at rest, with the assignment that it has, if any
abbrev pub RestsWith : PlainScene → Option Assigned → Type 0
RestsWith at assignment = IsAtRest at.advertised at.own at.wish assignment

-- without a best prefix: published and valid
abbrev pub StaysAlone : PlainScene → Assigned → Type 0
StaysAlone at c = IsSome c.published × IsValidFor at c

-- with the best prefix: published ahead of it and valid, or unpublished and the same
abbrev pub StaysAs : PlainScene → Assigned → Advertised → Option ℕ → Type 0
StaysAs at c best (Some priority) = IsAhead at best c × IsValidFor at c
StaysAs at c best None = c.prefix ≡ best.prefix

abbrev pub StaysBeside : PlainScene → Assigned → Advertised → Type 0
StaysBeside at c best = StaysAs at c best c.published
