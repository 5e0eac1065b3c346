-- Free prefixes among the advertised ones.
use Rattle.hn_base.proofs.Names.{◌≡◌, ◌↔◌, ℕ, ◌+◌, ◌%◌, ◌<◌, ◌≤◌, List, map, Option, None, Some, IfSome, refl, sym, subst, arith, All-contains, PlainPrefix, IsPrefix, IsWithin, Overlaps}
use Rattle.hn_assign.proofs.Names.{IsFree, IsTakenPrefix, IsFirstFree, Contains-map, Contains-from_map, Advertised, IsFreeIn, HasNoFree}
use Rattle.std.proofs.Common.{IfNone, IsNone}
use Rattle.hn_prefix.specs.Free.{IsFull, IsSubPrefix, IsPrefixInside, sub_prefix_count}

-- the prefixes of advertised ones
abbrev pub prefixes : List Advertised → List PlainPrefix
prefixes adv = map (λ a. a.prefix) adv

-- the prefixes of a length inside d are its sub-prefixes
abbrev AreAll : PlainPrefix → ℕ → Type 0
AreAll d len = (p : PlainPrefix) → IsPrefixInside d len p ↔ IsSubPrefix d len p

-- what `first_free` finds is free
pub found_free : (adv : List Advertised) (taken : List PlainPrefix) (d : PlainPrefix) (start len : ℕ) (r : Option PlainPrefix) → taken ≡ prefixes adv → AreAll d len
    → IfSome r (IsFirstFree d start taken len) → IfSome r (IsFreeIn adv d len)
found_free adv taken d start len None same all first = tt
found_free adv taken d start len (Some p) same all first =
    let count = sub_prefix_count d len in
    let place = (start + first.ahead) % count in
    let below : place < count = omega (arith, first.below_count) in
    record {
      inside = (all p).1 (place, below, first.at_place);
      free = λ a h overlaps. All-contains (λ t. ¬ (Overlaps t p)) (prefixes adv) a.prefix (subst (λ (ts : List PlainPrefix). IsFree ts p) same first.free)
          (Contains-map (λ a. a.prefix) adv a h) overlaps;
    }

-- where each is taken, nothing is free
pub none_free : (adv : List Advertised) (taken : List PlainPrefix) (d : PlainPrefix) (len : ℕ) (r : Option PlainPrefix) → taken ≡ prefixes adv → AreAll d len
    → IsNone r ↔ IsFull d taken len → IfNone r (HasNoFree adv d len)
none_free adv taken d len (Some p) same all none = tt
none_free adv taken d len None same all none = λ p free.
    let full = none.0 refl in
    let sub = (all p).0 free.inside in
    let is_taken : IsTakenPrefix (prefixes adv) p = subst (λ (ts : List PlainPrefix). IsTakenPrefix ts p) same (subst (IsTakenPrefix taken) (sym sub.2) (full sub.0 sub.1)) in
    clash adv p free is_taken
  where
    clash : (adv : List Advertised) (p : PlainPrefix) → IsFreeIn adv d len p → IsTakenPrefix (prefixes adv) p → ⊥
    clash adv p free (k, t, within, at, overlaps) =
        let a = Contains-from_map (λ a. a.prefix) adv t (k, within, at) in
        free.free a.0 a.1 (subst (λ (q : PlainPrefix). Overlaps q p) (sym a.2) overlaps)

-- nothing shorter than a prefix is inside it, by the law that what is within it is not shorter
pub none_in_longer : ((p q : PlainPrefix) → IsPrefix p → IsPrefix q → IsWithin p q → q.len ≤ p.len)
    → (adv : List Advertised) (d : PlainPrefix) (len : ℕ) → IsPrefix d → len < d.len → HasNoFree adv d len
none_in_longer not_shorter adv d len valid longer p free =
    let inside = free.inside in
    let not = not_shorter p d inside.prefix valid inside.within in
    let is_len : p.len ≡ len = inside.of_len in
    omega arith
