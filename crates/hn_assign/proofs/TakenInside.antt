-- Of the taken prefixes those that overlap another one tell all of what is free inside it.
use Rattle.hn_base.proofs.Names.{◌≡◌, ◌↔◌, ◌∙◌, ℕ, ◌+◌, ◌-◌, ◌<◌, ◌≤◌, List, [], ◌∷◌, length, take, drop, get_or, Contains, Option, None, Some, IfSome, refl, sym, ap, subst, ⊎_elim, arith, All-contains, get_or-take, get_or-drop, get_or-map, length-map, length-take}
use Rattle.hn_base.proofs.Names.{PlainPrefix, IsInside, IsWithin, Overlaps}
use Rattle.hn_base.proofs.Elements.{all_of}
use Rattle.std.proofs.Common.{IsNone}
use Rattle.hn_prefix.specs.Free.{IsFull, IsSubPrefix, IsPrefixInside, sub_prefix, sub_prefix_after}
use Rattle.hn_assign.proofs.Names.{IsFree, IsTakenPrefix, IsFirstFree, Contains-from_map, length-drop, nothing_in, Advertised, short_of}
use Rattle.hn_assign.proofs.FreePrefixes.{prefixes}
use Rattle.hn_assign.proofs.Indexes.{short_or_inside, in_short}
use Rattle.hn_assign.specs.Between.{AreBetween}

-- what stands between two places
pub between : {A : Type 0} (xs : List A) (start end k : ℕ) (x : A) → start ≤ k → k < end → end ≤ length xs → get_or xs k x ≡ x → Contains (take (end - start) (drop start xs)) x
between xs start end k x low high within at =
    let rest = length-drop start xs in
    let size = length-take (end - start) (drop start xs) in
    let place : start + (k - start) ≡ k = omega arith in
    (k - start, omega (arith, rest), get_or-take (end - start) (drop start xs) (k - start) x (omega arith) ∙ get_or-drop start xs (k - start) x ∙ ap (λ i. get_or xs i x) place ∙ at)

-- is among all
pub between_part : {A : Type 0} (xs : List A) (start n : ℕ) (x : A) → Contains (take n (drop start xs)) x → Contains xs x
between_part xs start n x (k, lt, at) =
    let rest = length-drop start xs in
    let size = length-take n (drop start xs) in
    (start + k, omega (arith, lt), sym (get_or-take n (drop start xs) k x (omega (arith, lt)) ∙ get_or-drop start xs k x) ∙ at)

-- so it is with what begins inside a prefix
pub starting_between : (adv : List Advertised) (outer : PlainPrefix) (start end : ℕ) (a : Advertised) → AreBetween adv outer start end → Contains adv a → IsInside a.prefix.bits outer
    → Contains (take (end - start) (drop start adv)) a
starting_between adv outer start end a are (k, lt, at) inside = let both = are.each k a lt at inside in between adv start end k a both.0 both.1 are.within at

pub prefix_between : (adv : List Advertised) (taken : List PlainPrefix) (outer : PlainPrefix) (start end : ℕ) (a : Advertised) → taken ≡ prefixes adv → AreBetween adv outer start end → Contains adv a
    → IsInside a.prefix.bits outer → Contains (take (end - start) (drop start taken)) a.prefix
prefix_between adv taken outer start end a is are (k, lt, at) inside =
    let both = are.each k a lt at inside in
    let size : length (prefixes adv) ≡ length adv = length-map adv (λ (x : Advertised). x.prefix) in
    subst (λ (ts : List PlainPrefix). Contains (take (end - start) (drop start ts)) a.prefix) (sym is)
    (between (prefixes adv) start end k a.prefix both.0 both.1 (omega (arith, size, are.within)) (get_or-map (λ (x : Advertised). x.prefix) adv k a a.prefix lt ∙ ap (λ (x : Advertised). x.prefix) at))

pub empty_is : {A : Type 0} (xs : List A) → length xs ≡ 0 → xs ≡ []
empty_is [] none = refl
empty_is (x ∷ xs) none = absurd (omega arith)

-- where none is short, what overlaps a prefix of at most 64 bits begins inside it
pub none_short : (adv short : List Advertised) (a : Advertised) (outer : PlainPrefix) → short ≡ short_of adv → short ≡ [] → Contains adv a
    → outer.len ≤ 64 → Overlaps a.prefix outer → IsInside a.prefix.bits outer
none_short adv short a outer is none there len overlaps =
    ⊎_elim
    (λ (less : a.prefix.len < 64). absurd (nothing_in a (subst (λ (xs : List Advertised). Contains xs a) (sym is ∙ none) (in_short adv a there less))))
    (λ (inside : IsInside a.prefix.bits outer). inside)
    (short_or_inside a.prefix outer len overlaps)

module _ (adv : List Advertised) (taken : List PlainPrefix) (d : PlainPrefix) (len : ℕ)
    (part : (t : PlainPrefix) → Contains taken t → Contains (prefixes adv) t) (all : (a : Advertised) → Contains adv a → Overlaps a.prefix d → Contains taken a.prefix) where
  -- what is taken among them is taken
  taken_there : (p : PlainPrefix) → IsTakenPrefix taken p → IsTakenPrefix (prefixes adv) p
  taken_there p (k, t, within, at, overlaps) = let h = part t (k, within, at) in (h.0, t, h.1, h.2, overlaps)

  -- what is free among them is free, where it is inside
  free_there : (p : PlainPrefix) → IsWithin p d → IsFree taken p → IsFree (prefixes adv) p
  free_there p within free = all_of (λ t. ¬ (Overlaps t p)) (prefixes adv) (λ t h overlaps.
      let a = Contains-from_map (λ x. x.prefix) adv t h in
      let here : Overlaps a.0.prefix p = subst (λ (q : PlainPrefix). Overlaps q p) (sym a.2) overlaps in
      All-contains (λ q. ¬ (Overlaps q p)) taken a.0.prefix free (all a.0 a.1 (here.0, here.1, within here.0 here.2)) here)

  pub first_there : (start : ℕ) (r : Option PlainPrefix) → IfSome r (IsFirstFree d start taken len) → IfSome r (λ p. IsWithin p d) → IfSome r (IsFirstFree d start (prefixes adv) len)
  first_there start None first within = tt
  first_there start (Some p) first within = record {
    ahead = first.ahead;
    below_count = first.below_count;
    at_place = first.at_place;
    free = free_there p within first.free;
    each_before_taken = λ j less. taken_there (sub_prefix_after d len start j) (first.each_before_taken j less);
  }

  -- a sub-prefix that is taken is taken among them
  taken_here : (p : PlainPrefix) → IsWithin p d → IsTakenPrefix (prefixes adv) p → IsTakenPrefix taken p
  taken_here p within (k, t, lt, at, overlaps) =
      let a = Contains-from_map (λ x. x.prefix) adv t (k, lt, at) in
      let here : Overlaps a.0.prefix p = subst (λ (q : PlainPrefix). Overlaps q p) (sym a.2) overlaps in
      let h = all a.0 a.1 (here.0, here.1, within here.0 here.2) in
      (h.0, a.0.prefix, h.1, h.2, here)

  -- so all are taken among them where all are
  pub full_same : ((p : PlainPrefix) → IsPrefixInside d len p ↔ IsSubPrefix d len p) → (r : Option PlainPrefix) → IsNone r ↔ IsFull d taken len → IsNone r ↔ IsFull d (prefixes adv) len
  full_same inside r none = (
    λ is place less. taken_there (sub_prefix d len place) (none.0 is place less),
    λ full. none.1 (λ place less. taken_here (sub_prefix d len place) ((inside (sub_prefix d len place)).1 (place, less, refl)).within (full place less)),
  )
