-- Laws of usable prefixes.
use Rattle.std.specs.Prelude.{◌≡◌, ◌↔◌, ℕ, ◌<◌, ◌^◌, List, Contains, map, All}
use Rattle.std.specs.declared.cmp.Ordering.TheVariants.{Less}
use Rattle.hn_base.specs.Prefix.{PlainPrefix, IsPrefix, IsWithin, Overlaps, prefix_cmp}
use Rattle.hn_data.specs.Later.{IsLater}
use Rattle.hn_data.specs.View.{PlainView}
use Rattle.hn_deleg.specs.declared.delegated.Delegated.{Delegated}
use Rattle.hn_deleg.specs.Due.{IsLifetimeEnd}
use Rattle.hn_deleg.specs.Later.{aged_delegated}
use Rattle.hn_deleg.specs.Used.{AreUsable, IsUnwanted, HasLifetimes, prefixes_of, whole_seconds}

-- Two different usable prefixes never overlap.
abbrev pub UsableNeverOverlap : Type 0
UsableNeverOverlap =
    (view : PlainView) (list : List Delegated) (p q : PlainPrefix) → AreUsable view list
    → Contains (prefixes_of list) p → Contains (prefixes_of list) q → Overlaps p q → p ≡ q

-- A view has at most one list of usable prefixes.
abbrev pub UsableIsUnique : Type 0
UsableIsUnique = (view : PlainView) (a b : List Delegated) → AreUsable view a → AreUsable view b → a ≡ b

-- A view has a list of usable prefixes.
abbrev pub UsableExists : Type 0
UsableExists = (view : PlainView) → (list : List Delegated) × AreUsable view list

-- The usable prefixes are prefixes.
abbrev pub UsableArePrefixes : Type 0
UsableArePrefixes = (view : PlainView) (list : List Delegated) → AreUsable view list → All (λ u. IsPrefix u.prefix) list

-- Prefixes inside two different usable prefixes are in the order of these.
abbrev pub InsideKeepsTheOrder : Type 0
InsideKeepsTheOrder =
    (view : PlainView) (list : List Delegated) (d f p q : PlainPrefix) → AreUsable view list
    → Contains (prefixes_of list) d → Contains (prefixes_of list) f
    → IsPrefix p → IsPrefix q → IsWithin p d → IsWithin q f → prefix_cmp d f ≡ Less → prefix_cmp p q ≡ Less

-- The lifetimes of a usable prefix, in whole seconds, fit 32 bits.
abbrev pub LifetimesFit : Type 0
LifetimesFit =
    (view : PlainView) (u : Delegated) → HasLifetimes view u
    → (whole_seconds u.valid < 2 ^ 32) × (whole_seconds u.preferred < 2 ^ 32)

-- While time passes and no announced lifetime ends, the same prefixes are usable, with what is left of their lifetimes.
abbrev pub UsableOfLater : Type 0
UsableOfLater =
    (before after : PlainView) (later : IsLater before after)
    → ((m : ℕ) → IsLifetimeEnd before m → before.now < m → after.now < m)
    → (list : List Delegated) → AreUsable before list → AreUsable after (map (aged_delegated later.time) list)

-- These are the same prefixes, in the same order.
abbrev pub AgedAreTheSamePrefixes : Type 0
AgedAreTheSamePrefixes = (time : ℕ) (list : List Delegated) → prefixes_of (map (aged_delegated time) list) ≡ prefixes_of list

-- And the same ones are wanted.
abbrev pub UnwantedOfLater : Type 0
UnwantedOfLater =
    (before after : PlainView) (later : IsLater before after)
    → ((m : ℕ) → IsLifetimeEnd before m → before.now < m → after.now < m)
    → (list : List Delegated) → AreUsable before list
    → (i : ℕ) → IsUnwanted list i ↔ IsUnwanted (map (aged_delegated later.time) list) i

-- While time passes, the ends that are still to come stay the same.
abbrev pub EndsOfLater : Type 0
EndsOfLater =
    (before after : PlainView) → IsLater before after
    → (m : ℕ) → after.now < m → IsLifetimeEnd before m ↔ IsLifetimeEnd after m
