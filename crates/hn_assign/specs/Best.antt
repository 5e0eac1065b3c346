-- The best prefix for a link, a valid assignment, a free prefix (RFC 7695, section 4.1).
use Rattle.std.specs.Prelude.{◌≡◌, ◌≢◌, ℕ, List, Option, Some, None, Contains}
use Rattle.std.specs.declared.cmp.Ordering.TheVariants.{Less}
use Rattle.hn_base.specs.Key.{IsAbove}
use Rattle.hn_base.specs.Prefix.{PlainPrefix, IsWithin, Overlaps}
use Rattle.hn_prefix.specs.Free.{IsPrefixInside}
use Rattle.hn_assign.specs.declared.advertised.Advertised.{Advertised}
use Rattle.hn_pair.specs.declared.assigned.Assigned.{Assigned}
use Rattle.hn_assign.specs.Advertised.{LinkEndpoints, key_of, IsAdvertisedOnLink, advertised_cmp}

-- another node advertises it on the link, inside the delegated prefix d
pub record IsCandidatePrefix (adv : List Advertised) (own : ℕ) (common : LinkEndpoints) (d : PlainPrefix) (a : Advertised)
    : Type 0 where
  pub advertised : Contains adv a
  pub of_another : a.key.node.0 ≢ own
  pub on_link : IsAdvertisedOnLink common a
  pub inside : IsWithin a.prefix d

-- the best: no candidate is greater, by key and then by prefix
pub record IsBest (adv : List Advertised) (own : ℕ) (common : LinkEndpoints) (d : PlainPrefix) (best : Advertised) : Type 0 where
  pub candidate : IsCandidatePrefix adv own common d best
  pub greatest : (a : Advertised) → IsCandidatePrefix adv own common d a → ¬ (advertised_cmp best a ≡ Less)

-- there is no best where there is no candidate
abbrev pub HasNoBest : List Advertised → ℕ → LinkEndpoints → PlainPrefix → Type 0
HasNoBest adv own common d = (a : Advertised) → ¬ (IsCandidatePrefix adv own common d a)

-- An assignment is valid if and only if no prefix that overlaps it is advertised on another link with a key above that
-- of the assignment. Its key is the one that it has where the router publishes it, with priority 2.
abbrev pub IsValid : List Advertised → ℕ → LinkEndpoints → Assigned → Type 0
IsValid adv own common c =
    (a : Advertised) → Contains adv a → ¬ (IsAdvertisedOnLink common a) → Overlaps a.prefix c.prefix
    → ¬ (IsAbove a.key (key_of 2 own c.endpoint.0))

-- a prefix of the length inside d that overlaps no advertised prefix
pub record IsFreeIn (adv : List Advertised) (d : PlainPrefix) (len : ℕ) (p : PlainPrefix) : Type 0 where
  pub inside : IsPrefixInside d len p
  pub free : (a : Advertised) → Contains adv a → ¬ (Overlaps a.prefix p)

-- nothing in d is free
abbrev pub HasNoFree : List Advertised → PlainPrefix → ℕ → Type 0
HasNoFree adv d len = (p : PlainPrefix) → ¬ (IsFreeIn adv d len p)

-- the best, if there is one
abbrev pub IsBestIfAny : List Advertised → ℕ → LinkEndpoints → PlainPrefix → Option Advertised → Type 0
IsBestIfAny adv own common d None = HasNoBest adv own common d
IsBestIfAny adv own common d (Some best) = IsBest adv own common d best
