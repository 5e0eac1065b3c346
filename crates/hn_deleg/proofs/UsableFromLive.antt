-- From what is announced to the usable prefixes.
use Rattle.hn_base.proofs.Names.{◌≡◌, ◌↔◌, ℕ, ◌+◌, ◌≤◌, List, [], ◌∷◌, ◌++◌, length, take, Contains, Some, sym, ◌∙◌, ap, subst, inl, inr, ⊎_elim, arith, slice_get, All, Less, IsStrictlySortedBy}
use Rattle.hn_base.proofs.Names.{length-map, length-take, map-append, All-contains, PlainPrefix, IsPrefix, prefix_cmp}
use Rattle.hn_deleg.proofs.Names.{Contains-map, Contains-from_map, all_of, PlainView, Delegation, Entry, Delegated, remaining, IsAnnounced, IsAnnouncedPrefix, IsLongestLeft, live_of, HasPrefixes}
use Rattle.hn_deleg.proofs.Names.{IsLiveIn, AreOutermost, IsGreatestIn, HasLifetimesIn, prefixes_of, IsOutermost, HasLifetimes, AreUsable, front_at}
use Rattle.hn_deleg.specs.Steps.{IsOutermostIn}
use Rattle.hn_deleg.proofs.Live.{leaves, left, left_of}
use Rattle.hn_deleg.proofs.FirstElements.{sorted_take, taken_or_after, Contains-from_take}

-- ---- candidates and lifetimes

-- the list has what the nodes of the view announce that is live
abbrev pub AreLive : PlainView → List Delegated → Type 0
AreLive view live = (u : Delegated) → Contains live u ↔ IsLiveIn view.nodes u

announced_from_live : (view : PlainView) (u : Delegated) → (l : IsLiveIn view.nodes u) → IsAnnounced view l.node l.at.delegation
announced_from_live view u l = record { reachable = l.among; version = l.at.version; said = l.at.said; live = (leaves l.node.age l.at.delegation u l.at.remains).live }

live_from_announced : (view : PlainView) (node : Entry) (d : Delegation) → d.prefix.len ≤ 64 → IsAnnounced view node d → IsLiveIn view.nodes (left_of node.age d)
live_from_announced view node d short a = record { node = node; among = a.reachable; at = record { version = a.version; delegation = d; said = a.said; remains = left node.age d short a.live } }

pub candidate_from_live : (view : PlainView) (live : List Delegated) (p : PlainPrefix) → AreLive view live → Contains (prefixes_of live) p → IsAnnouncedPrefix view p
candidate_from_live view live p are h =
    let found = Contains-from_map (λ (u : Delegated). u.prefix) live p h in
    let l = (are found.0).0 found.1 in
    let left_there = leaves l.node.age l.at.delegation found.0 l.at.remains in
    let is : l.at.delegation.prefix ≡ p = sym left_there.prefix_is ∙ found.2 in
    record {
      short = subst (λ (q : PlainPrefix). q.len ≤ 64) is left_there.short;
      node = l.node;
      delegation = l.at.delegation;
      announced = announced_from_live view found.0 l;
      is_it = is;
    }

pub live_from_candidate : (view : PlainView) (live : List Delegated) (p : PlainPrefix) → AreLive view live → IsAnnouncedPrefix view p → Contains (prefixes_of live) p
live_from_candidate view live p are c =
    let short : c.delegation.prefix.len ≤ 64 = subst (λ (q : PlainPrefix). q.len ≤ 64) (sym c.is_it) c.short in
    let u = left_of c.node.age c.delegation in
    let there : Contains live u = (are u).1 (live_from_announced view c.node c.delegation short c.announced) in
    subst (Contains (prefixes_of live)) c.is_it (Contains-map (λ (x : Delegated). x.prefix) live u there)

greatest_in_view : (view : PlainView) (live : List Delegated) (p : PlainPrefix) (f : Delegation → ℕ) (g : Delegated → ℕ) (ms : ℕ) → AreLive view live → p.len ≤ 64
    → ((age : ℕ) (d : Delegation) (u : Delegated) → live_of age d ≡ Some u → g u ≡ remaining age (f d)) → IsGreatestIn live p g ms → IsLongestLeft view p f ms
greatest_in_view view live p f g ms are short same greatest =
    let l = (are greatest.one).0 greatest.among in
    let left_there = leaves l.node.age l.at.delegation greatest.one l.at.remains in
    record {
      node = l.node;
      delegation = l.at.delegation;
      announced = announced_from_live view greatest.one l;
      is_it = sym left_there.prefix_is ∙ greatest.is_it;
      this = greatest.this ∙ same l.node.age l.at.delegation greatest.one l.at.remains;
      none_greater = λ other d a e.
          let d_short : d.prefix.len ≤ 64 = subst (λ (q : PlainPrefix). q.len ≤ 64) (sym e) short in
          let u = left_of other.age d in
          let most : g u ≤ ms = greatest.none_greater u ((are u).1 (live_from_announced view other d d_short a)) e in
          subst (λ (n : ℕ). n ≤ ms) (same other.age d u (left other.age d d_short a.live)) most;
    }

lifetimes_in_view : (view : PlainView) (live : List Delegated) (u : Delegated) → AreLive view live → HasLifetimesIn live u → HasLifetimes view u
lifetimes_in_view view live u are h =
    let v = h.greatest_valid in
    let short = (candidate_from_live view live u.prefix are (subst (Contains (prefixes_of live)) v.is_it (Contains-map (λ (x : Delegated). x.prefix) live v.one v.among))).short in
    record {
      preferred = h.preferred;
      greatest_valid = greatest_in_view view live u.prefix (λ d. d.valid) (λ x. x.valid) u.valid are short (λ age d x e. (leaves age d x e).valid_is) h.greatest_valid;
      greatest_preferred = greatest_in_view view live u.prefix (λ d. d.preferred) (λ x. x.preferred) h.preferred are short (λ age d x e. (leaves age d x e).preferred_is) h.greatest_preferred;
      cut = h.cut;
    }

-- ---- the whole

-- one more with the next of the prefixes
pub prefixes_more : (found : List Delegated) (u : Delegated) (prefixes : List PlainPrefix) (n : ℕ) (p : PlainPrefix)
    → prefixes_of found ≡ take n prefixes → u.prefix ≡ p → slice_get prefixes n ≡ Some p
    → prefixes_of (found ++ u ∷ []) ≡ take (n + 1) prefixes
prefixes_more found u prefixes n p were is at =
    map-append (λ (x : Delegated). x.prefix) found (u ∷ []) ∙ ap (λ (ps : List PlainPrefix). ps ++ u.prefix ∷ []) were
    ∙ ap (λ (q : PlainPrefix). take n prefixes ++ q ∷ []) is ∙ sym (front_at prefixes n p at)

-- what is sorted are the prefixes of the list
pub sorted_prefixes : (live list : List Delegated) (found sorted : List PlainPrefix) → list ≡ live → found ≡ prefixes_of list → ((p : PlainPrefix) → Contains sorted p ↔ Contains found p)
    → (p : PlainPrefix) → Contains sorted p ↔ Contains (prefixes_of live) p
sorted_prefixes live list found sorted same are sort p = subst (λ (ps : List PlainPrefix). Contains sorted p ↔ Contains ps p) (are ∙ ap prefixes_of same) (sort p)

-- the prefixes of a list that are prefixes
pub valid_candidates : (live : List Delegated) (candidates : List PlainPrefix) → HasPrefixes live
    → ((p : PlainPrefix) → Contains candidates p ↔ Contains (prefixes_of live) p) → All IsPrefix candidates
valid_candidates live candidates valid same = all_of IsPrefix candidates (λ p h.
    let found = Contains-from_map (λ (u : Delegated). u.prefix) live p ((same p).0 h) in
    subst IsPrefix found.2 (All-contains (λ (u : Delegated). IsPrefix u.prefix) live found.0 valid found.1))

-- the first of those kept are prefixes of the list
pub kept_in_live : (live : List Delegated) (candidates kept : List PlainPrefix) (n : ℕ) → ((p : PlainPrefix) → Contains candidates p ↔ Contains (prefixes_of live) p) → AreOutermost candidates kept
    → All (Contains (prefixes_of live)) (take n kept)
kept_in_live live candidates kept n same outer = all_of (Contains (prefixes_of live)) (take n kept) (λ p h. (same p).0 ((outer.exact p).0 (Contains-from_take n kept p h)).among)

outermost_in_view : (view : PlainView) (live : List Delegated) (candidates : List PlainPrefix) (p : PlainPrefix) → AreLive view live
    → ((q : PlainPrefix) → Contains candidates q ↔ Contains (prefixes_of live) q)
    → IsOutermostIn candidates p ↔ IsOutermost view p
outermost_in_view view live candidates p are same = (
  λ o. record {
    candidate = candidate_from_live view live p are ((same p).0 o.among);
    not_inside = λ q c w. o.not_inside q ((same q).1 (live_from_candidate view live q are c)) w;
  },
  λ o. record {
    among = (same p).1 (live_from_candidate view live p are o.candidate);
    not_inside = λ q c w. o.not_inside q (candidate_from_live view live q are ((same q).0 c)) w;
  },
)

pub usable : (view : PlainView) (live : List Delegated) (candidates kept : List PlainPrefix) (list : List Delegated) → AreLive view live
    → ((p : PlainPrefix) → Contains candidates p ↔ Contains (prefixes_of live) p) → AreOutermost candidates kept → prefixes_of list ≡ take 32 kept → All (HasLifetimesIn live) list
    → AreUsable view list
usable view live candidates kept list are same outer prefixes lasts = record {
  ascending = subst (IsStrictlySortedBy prefix_cmp) (sym prefixes) (sorted_take prefix_cmp 32 kept outer.ascending);
  few = (let few = length-take 32 kept in let long = length-map list (λ (u : Delegated). u.prefix) in
      let same_length : length (prefixes_of list) ≡ length (take 32 kept) = ap length prefixes in omega arith);
  outermost = all_of (λ u. IsOutermost view u.prefix) list (λ u h.
      let there : Contains (take 32 kept) u.prefix = subst (λ (l : List PlainPrefix). Contains l u.prefix) prefixes (Contains-map (λ (x : Delegated). x.prefix) list u h) in
      (outermost_in_view view live candidates u.prefix are same).0 ((outer.exact u.prefix).0 (Contains-from_take 32 kept u.prefix there)));
  lifetimes = all_of (HasLifetimes view) list (λ u h. lifetimes_in_view view live u are (All-contains (HasLifetimesIn live) list u lasts h));
  first = λ p o.
      let there : Contains kept p = (outer.exact p).1 ((outermost_in_view view live candidates p are same).1 o) in
      ⊎_elim (λ (in_first : Contains (take 32 kept) p). inl (subst (λ (l : List PlainPrefix). Contains l p) (sym prefixes) in_first))
      (λ (after : (length (take 32 kept) ≡ 32) × ((q : PlainPrefix) → Contains (take 32 kept) q → prefix_cmp q p ≡ Less)).
      let long = length-map list (λ (u : Delegated). u.prefix) in
      let same_length : length (prefixes_of list) ≡ length (take 32 kept) = ap length prefixes in
      let full : length list ≡ 32 = (let n = after.0 in omega arith) in
      inr (full, all_of (λ q. prefix_cmp q p ≡ Less) (prefixes_of list) (λ q h. after.1 q (subst (λ (l : List PlainPrefix). Contains l q) prefixes h))))
      (taken_or_after prefix_cmp 32 kept p outer.ascending there);
}
