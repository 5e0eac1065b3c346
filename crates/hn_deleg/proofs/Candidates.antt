-- Usable prefixes are determined by the candidates, and what is preferred by the announcements.
use Rattle.hn_base.proofs.Names.{◌≡◌, ◌↔◌, ℕ, ◌+◌, ◌<◌, ◌≤◌, List, [], ◌∷◌, ◌++◌, length, Contains, sym, subst, ⊎_elim, arith, All, Less, length-map, All-contains, Contains-push_cases, PlainPrefix}
use Rattle.hn_base.proofs.Names.{prefix_cmp}
use Rattle.hn_deleg.proofs.Names.{length-append, ascending_unique, Contains-from_map, sorted_push, not_both, no_longer, prefix_total, exact_prefix, aged_entry, PlainView, Entry, Delegated, remaining}
use Rattle.hn_deleg.proofs.Names.{IsAnnounced, IsAnnouncedPrefix, prefixes_of, IsOutermost, HasLifetimes, AreUsable}
use Rattle.hn_deleg.specs.Candidates.{IsPreferred, SameCandidatesSameUsed, PreferredIsAnnounced, PreferredWasSo}
use Rattle.hn_deleg.proofs.LaterUsable.{remaining_before}
use Rattle.hn_deleg.proofs.OneUsableList.{outermost_of}

-- ---- the same candidates

abbrev HaveSameCandidates : PlainView → PlainView → Type 0
HaveSameCandidates view other = (p : PlainPrefix) → IsAnnouncedPrefix view p ↔ IsAnnouncedPrefix other p

outermost_too : (view other : PlainView) → HaveSameCandidates view other → (p : PlainPrefix) → IsOutermost view p → IsOutermost other p
outermost_too view other same p outer = record { candidate = (same p).0 outer.candidate; not_inside = λ q there within. outer.not_inside q ((same q).1 there) within }

-- a prefix of one list is in the other
prefix_too : (view other : PlainView) (a b : List Delegated) → HaveSameCandidates view other → AreUsable view a → AreUsable other b
    → (p : PlainPrefix) → Contains (prefixes_of a) p → Contains (prefixes_of b) p
prefix_too view other a b same are_a are_b p h =
    ⊎_elim (λ (there : Contains (prefixes_of b) p). there)
    (λ (after : (length b ≡ 32) × All (λ q. prefix_cmp q p ≡ Less) (prefixes_of b)).
    let below : (q : PlainPrefix) → Contains (prefixes_of b) q → prefix_cmp q p ≡ Less = λ q g. All-contains (λ (z : PlainPrefix). prefix_cmp z p ≡ Less) (prefixes_of b) q after.1 g in
    let longer = prefixes_of b ++ p ∷ [] in
    let most : length longer ≤ length (prefixes_of a) = no_longer prefix_cmp prefix_total exact_prefix longer (prefixes_of a) (sorted_push prefix_cmp (prefixes_of b) p are_b.ascending below) (λ z g.
    ⊎_elim (λ (in_b : Contains (prefixes_of b) z).
    ⊎_elim (λ (in_a : Contains (prefixes_of a) z). in_a)
    (λ (past : (length a ≡ 32) × All (λ q. prefix_cmp q z ≡ Less) (prefixes_of a)).
    absurd (not_both prefix_cmp prefix_total p z (All-contains (λ (v : PlainPrefix). prefix_cmp v z ≡ Less) (prefixes_of a) p past.1 h) (below z in_b)))
    (are_a.first z (outermost_too other view (λ q. ((same q).1, (same q).0)) z (outermost_of other b z are_b in_b))))
    (λ (is : p ≡ z). subst (Contains (prefixes_of a)) is h)
    (Contains-push_cases (prefixes_of b) p z g)) in
    let long : length longer ≡ length (prefixes_of b) + 1 = length-append (prefixes_of b) (p ∷ []) in
    let size_a = length-map a (λ (u : Delegated). u.prefix) in
    let size_b = length-map b (λ (u : Delegated). u.prefix) in
    let few = are_a.few in
    let full = after.0 in
    absurd (omega arith))
    (are_b.first p (outermost_too view other same p (outermost_of view a p are_a h)))

pub same_used : SameCandidatesSameUsed
same_used view other a b same are_a are_b =
    ascending_unique prefix_cmp prefix_total (prefixes_of a) (prefixes_of b) are_a.ascending are_b.ascending
    (λ p. (prefix_too view other a b same are_a are_b p, prefix_too other view b a (λ q. ((same q).1, (same q).0)) are_b are_a p))

-- ---- preferred lifetimes

pub preferred_announced : PreferredIsAnnounced
preferred_announced view list u are there = (from, to)
  where
    has : HasLifetimes view u
    has = All-contains (HasLifetimes view) list u are.lifetimes there

    from : 0 < u.preferred → IsPreferred view u.prefix
    from some =
        let g = has.greatest_preferred in
        let cut = has.cut in
        let more : 0 < has.preferred = omega (arith, cut, some) in
        record { node = g.node; delegation = g.delegation; announced = g.announced; is_it = g.is_it; left = subst (λ (n : ℕ). 0 < n) g.this more }

    to : IsPreferred view u.prefix → 0 < u.preferred
    to p =
        let most = has.greatest_preferred.none_greater p.node p.delegation p.announced p.is_it in
        let lasts = has.greatest_valid.none_greater p.node p.delegation p.announced p.is_it in
        let left = p.left in
        let live = p.announced.live in
        let cut = has.cut in
        omega (arith, most, lasts, left, live, cut)

pub preferred_before : PreferredWasSo
preferred_before before after p later is =
    let a = is.announced in
    let found = Contains-from_map (aged_entry later.time) before.nodes is.node (subst (λ (nodes : List Entry). Contains nodes is.node) later.nodes a.reachable) in
    let same : IsAnnounced after (aged_entry later.time found.0) is.delegation = subst (λ (n : Entry). IsAnnounced after n is.delegation) (sym found.2) a in
    let left : 0 < remaining (found.0.age + later.time) is.delegation.preferred = subst (λ (n : Entry). 0 < remaining n.age is.delegation.preferred) (sym found.2) is.left in
    record {
      node = found.0;
      delegation = is.delegation;
      announced = record { reachable = found.1; version = same.version; said = same.said; live = remaining_before later.time found.0.age is.delegation.valid same.live };
      is_it = is.is_it;
      left = remaining_before later.time found.0.age is.delegation.preferred left;
    }
