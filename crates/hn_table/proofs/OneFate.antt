-- A delegated prefix has no two fates.
use Rattle.hn_base.proofs.Names.{◌≡◌, ◌↔◌, ◌<◌, ◌≤◌, List, ◌⊎◌, ⊎_elim, Contains, refl, sym, ap, subst, arith, All-contains, PlainPrefix, IsWithin, Overlaps}
use Rattle.hn_table.proofs.Names.{All, HasVersion, PlainView, Delegation, Entry, remaining, AreUsable, IsOutermost, prefixes_of, Delegated, IsPastTheUsed, Unreachable}
use Rattle.hn_base.proofs.AscendingLists.{Contains-from_map}
use Rattle.hn_table.specs.Fate.{IsUsed, IsEnded, IsLong, IsInsideOther, IsFate, HasOneFate}
use Rattle.hn_table.specs.declared.fate.Fate.{Fate}
use Rattle.hn_table.specs.declared.fate.Fate.TheVariants.{Used, NoVersion, Ended, Long, Inside, Past}

-- the law of hn_prefix: two prefixes overlap where one is within the other
abbrev pub OverlapIsNesting : Type 0
OverlapIsNesting = (p q : PlainPrefix) → Overlaps p q ↔ (IsWithin p q ⊎ IsWithin q p)

module _ (nesting : OverlapIsNesting) (view : PlainView) (used : List Delegated) (node : Entry) (d : Delegation) (usable : AreUsable view used) where
  -- what ends is not live, and what is long is not short
  ended_is_live : remaining node.age d.valid ≡ 0 → 0 < remaining node.age d.valid → ⊥
  ended_is_live ended live = omega (arith, ended, live)

  long_is_short : 64 < d.prefix.len → d.prefix.len ≤ 64 → ⊥
  long_is_short long short = omega (arith, long, short)

  -- a prefix that is used is outermost
  used_is_outermost : Contains (prefixes_of used) d.prefix → IsOutermost view d.prefix
  used_is_outermost among =
      let found = Contains-from_map (λ (u : Delegated). u.prefix) used d.prefix among in
      subst (IsOutermost view) found.2 (All-contains (λ (u : Delegated). IsOutermost view u.prefix) used found.0 usable.outermost found.1)

  -- so no other candidate has it inside
  inside_is_outermost : (outer : PlainPrefix) → IsOutermost view d.prefix → IsInsideOther view node d outer → ⊥
  inside_is_outermost outer outermost h = h.different (outermost.not_inside outer h.outermost.candidate h.inside)

  -- one outermost candidate has it inside
  one_outer : (p q : PlainPrefix) → IsInsideOther view node d p → IsInsideOther view node d q → p ≡ q
  one_outer p q h k =
      let bits = d.prefix.bits in
      let overlap : Overlaps p q = (bits, h.inside bits refl, k.inside bits refl) in
      ⊎_elim (λ (within : IsWithin p q). sym (h.outermost.not_inside q k.outermost.candidate within))
      (λ (within : IsWithin q p). k.outermost.not_inside p h.outermost.candidate within) ((nesting p q).0 overlap)

  abbrev Has : Fate → Type 0
  Has fate = IsFate view used node d fate

  without_version : (b : Fate) → ¬ HasVersion node.body → Has b → NoVersion ≡ b
  without_version Used h k = absurd (h k.candidate.announced.version)
  without_version NoVersion h k = refl
  without_version Ended h k = absurd (h k.version)
  without_version Long h k = absurd (h k.version)
  without_version (Inside outer) h k = absurd (h k.candidate.announced.version)
  without_version Past h k = absurd (h k.candidate.announced.version)
  without_version Unreachable h k = absurd k

  ended : (b : Fate) → IsEnded node d → Has b → Ended ≡ b
  ended Used h k = absurd (ended_is_live h.ended k.candidate.announced.live)
  ended NoVersion h k = absurd (k h.version)
  ended Ended h k = refl
  ended Long h k = absurd (ended_is_live h.ended k.live)
  ended (Inside outer) h k = absurd (ended_is_live h.ended k.candidate.announced.live)
  ended Past h k = absurd (ended_is_live h.ended k.candidate.announced.live)
  ended Unreachable h k = absurd k

  long : (b : Fate) → IsLong node d → Has b → Long ≡ b
  long Used h k = absurd (long_is_short h.long k.candidate.short)
  long NoVersion h k = absurd (k h.version)
  long Ended h k = absurd (ended_is_live k.ended h.live)
  long Long h k = refl
  long (Inside outer) h k = absurd (long_is_short h.long k.candidate.short)
  long Past h k = absurd (long_is_short h.long k.candidate.short)
  long Unreachable h k = absurd k

  used_too : (b : Fate) → IsUsed view used node d → Has b → Used ≡ b
  used_too Used h k = refl
  used_too NoVersion h k = absurd (k h.candidate.announced.version)
  used_too Ended h k = absurd (ended_is_live k.ended h.candidate.announced.live)
  used_too Long h k = absurd (long_is_short k.long h.candidate.short)
  used_too (Inside outer) h k = absurd (inside_is_outermost outer (used_is_outermost h.among) k)
  used_too Past h k = absurd (k.not_among h.among)
  used_too Unreachable h k = absurd k

  inside : (outer : PlainPrefix) (b : Fate) → IsInsideOther view node d outer → Has b → Inside outer ≡ b
  inside outer Used h k = absurd (inside_is_outermost outer (used_is_outermost k.among) h)
  inside outer NoVersion h k = absurd (k h.candidate.announced.version)
  inside outer Ended h k = absurd (ended_is_live k.ended h.candidate.announced.live)
  inside outer Long h k = absurd (long_is_short k.long h.candidate.short)
  inside outer (Inside other) h k = ap Inside (one_outer outer other h k)
  inside outer Past h k = absurd (inside_is_outermost outer k.outermost h)
  inside outer Unreachable h k = absurd k

  past : (b : Fate) → IsPastTheUsed view used node d → Has b → Past ≡ b
  past Used h k = absurd (h.not_among k.among)
  past NoVersion h k = absurd (k h.candidate.announced.version)
  past Ended h k = absurd (ended_is_live k.ended h.candidate.announced.live)
  past Long h k = absurd (long_is_short k.long h.candidate.short)
  past (Inside outer) h k = absurd (inside_is_outermost outer h.outermost k)
  past Past h k = refl
  past Unreachable h k = absurd k

  one : (a b : Fate) → Has a → Has b → a ≡ b
  one Used b h k = used_too b h k
  one NoVersion b h k = without_version b h k
  one Ended b h k = ended b h k
  one Long b h k = long b h k
  one (Inside outer) b h k = inside outer b h k
  one Past b h k = past b h k
  one Unreachable b h k = absurd h

pub has_one_fate : OverlapIsNesting → HasOneFate
has_one_fate nesting view used node d a b usable h k = one nesting view used node d usable a b h k
