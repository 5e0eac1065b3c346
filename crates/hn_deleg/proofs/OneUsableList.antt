-- Usable prefixes do not overlap, and a view has one list of them.
use Rattle.hn_base.proofs.Names.{◌≡◌, ℕ, ◌+◌, ◌≤◌, List, [], ◌∷◌, ◌++◌, length, Contains, refl, sym, ◌∙◌, ap, subst, ⊎_elim, arith, min, All, Less, length-map, All-contains, Contains-push_cases}
use Rattle.hn_base.proofs.Names.{PlainPrefix, IsWithin, Overlaps, prefix_cmp}
use Rattle.hn_deleg.proofs.Names.{length-append, ascending_unique, Contains-head, Contains-tail, Contains-from_map, sorted_push, not_both, PlainView, Delegation, Delegated, IsLongestLeft, prefixes_of}
use Rattle.hn_deleg.proofs.Names.{IsOutermost, HasLifetimes, AreUsable, no_longer, prefix_total, exact_prefix}
use Rattle.hn_deleg.proofs.Prefixes.{OverlapIsNesting}

pub outermost_of : (view : PlainView) (list : List Delegated) (p : PlainPrefix) → AreUsable view list → Contains (prefixes_of list) p → IsOutermost view p
outermost_of view list p are h =
    let found = Contains-from_map (λ (u : Delegated). u.prefix) list p h in
    subst (IsOutermost view) found.2 (All-contains (λ (u : Delegated). IsOutermost view u.prefix) list found.0 are.outermost found.1)

pub apart : OverlapIsNesting → (view : PlainView) (list : List Delegated) (p q : PlainPrefix) → AreUsable view list → Contains (prefixes_of list) p
    → Contains (prefixes_of list) q → Overlaps p q → p ≡ q
apart nesting view list p q are hp hq overlap =
    let op = outermost_of view list p are hp in
    let oq = outermost_of view list q are hq in
    ⊎_elim (λ (w : IsWithin p q). sym (op.not_inside q oq.candidate w)) (λ (w : IsWithin q p). oq.not_inside p op.candidate w) ((nesting p q).0 overlap)

-- ---- the same prefixes

-- a prefix of one list is in the other
same_prefix : (view : PlainView) (a b : List Delegated) → AreUsable view a → AreUsable view b → (p : PlainPrefix) → Contains (prefixes_of a) p → Contains (prefixes_of b) p
same_prefix view a b are_a are_b p h =
    ⊎_elim (λ (there : Contains (prefixes_of b) p). there)
    (λ (after : (length b ≡ 32) × All (λ q. prefix_cmp q p ≡ Less) (prefixes_of b)).
    let below : (q : PlainPrefix) → Contains (prefixes_of b) q → prefix_cmp q p ≡ Less = λ q g. All-contains (λ (z : PlainPrefix). prefix_cmp z p ≡ Less) (prefixes_of b) q after.1 g in
    let longer = prefixes_of b ++ p ∷ [] in
    let most : length longer ≤ length (prefixes_of a) = no_longer prefix_cmp prefix_total exact_prefix longer (prefixes_of a) (sorted_push prefix_cmp (prefixes_of b) p are_b.ascending below) (λ z g.
    ⊎_elim (λ (in_b : Contains (prefixes_of b) z).
    ⊎_elim (λ (in_a : Contains (prefixes_of a) z). in_a)
    (λ (past : (length a ≡ 32) × All (λ q. prefix_cmp q z ≡ Less) (prefixes_of a)).
    absurd (not_both prefix_cmp prefix_total p z (All-contains (λ (v : PlainPrefix). prefix_cmp v z ≡ Less) (prefixes_of a) p past.1 h) (below z in_b)))
    (are_a.first z (outermost_of view b z are_b in_b)))
    (λ (is : p ≡ z). subst (Contains (prefixes_of a)) is h)
    (Contains-push_cases (prefixes_of b) p z g)) in
    let long : length longer ≡ length (prefixes_of b) + 1 = length-append (prefixes_of b) (p ∷ []) in
    let size_a = length-map a (λ (u : Delegated). u.prefix) in
    let size_b = length-map b (λ (u : Delegated). u.prefix) in
    let few = are_a.few in
    let full = after.0 in
    absurd (omega arith))
    (are_b.first p (outermost_of view a p are_a h))

-- ---- the same lifetimes

one_greatest : (view : PlainView) (p : PlainPrefix) (f : Delegation → ℕ) (m n : ℕ) → IsLongestLeft view p f m → IsLongestLeft view p f n → m ≡ n
one_greatest view p f m n g h =
    let up : m ≤ n = subst (λ (k : ℕ). k ≤ n) (sym g.this) (h.none_greater g.node g.delegation g.announced g.is_it) in
    let down : n ≤ m = subst (λ (k : ℕ). k ≤ m) (sym h.this) (g.none_greater h.node h.delegation h.announced h.is_it) in
    omega arith

one_delegated : (view : PlainView) (u v : Delegated) → HasLifetimes view u → HasLifetimes view v → u.prefix ≡ v.prefix → u ≡ v
one_delegated view u v g h same =
    let valid : u.valid ≡ v.valid = one_greatest view v.prefix (λ d. d.valid) u.valid v.valid
    (subst (λ (p : PlainPrefix). IsLongestLeft view p (λ d. d.valid) u.valid) same g.greatest_valid) h.greatest_valid in
    let most : g.preferred ≡ h.preferred = one_greatest view v.prefix (λ d. d.preferred) g.preferred h.preferred
    (subst (λ (p : PlainPrefix). IsLongestLeft view p (λ d. d.preferred) g.preferred) same g.greatest_preferred) h.greatest_preferred in
    let preferred : u.preferred ≡ v.preferred = g.cut ∙ ap (λ n. min n u.valid) most ∙ ap (λ n. min h.preferred n) valid ∙ sym h.cut in
    ap (λ (p : PlainPrefix). record { prefix = p; valid = u.valid; preferred = u.preferred }) same
    ∙ ap (λ (n : ℕ). record { prefix = v.prefix; valid = n; preferred = u.preferred }) valid
    ∙ ap (λ (n : ℕ). record { prefix = v.prefix; valid = v.valid; preferred = n }) preferred

from_prefixes : (a b : List Delegated) → prefixes_of a ≡ prefixes_of b → ((u v : Delegated) → Contains a u → Contains b v → u.prefix ≡ v.prefix → u ≡ v) → a ≡ b
from_prefixes [] [] same one = refl
from_prefixes [] (v ∷ vs) same one = absurd (cc)
from_prefixes (u ∷ us) [] same one = absurd (cc)
from_prefixes (u ∷ us) (v ∷ vs) same one =
    let heads : u ≡ v = one u v (Contains-head u us) (Contains-head v vs) (cc) in
    let tails : us ≡ vs = from_prefixes us vs (cc) (λ x y h g. one x y (Contains-tail u us x h) (Contains-tail v vs y g)) in
    ap (λ (x : Delegated). x ∷ us) heads ∙ ap (λ (xs : List Delegated). v ∷ xs) tails

pub one_list : (view : PlainView) (a b : List Delegated) → AreUsable view a → AreUsable view b → a ≡ b
one_list view a b are_a are_b =
    let prefixes : prefixes_of a ≡ prefixes_of b = ascending_unique prefix_cmp prefix_total (prefixes_of a) (prefixes_of b) are_a.ascending are_b.ascending
    (λ p. (same_prefix view a b are_a are_b p, same_prefix view b a are_b are_a p)) in
    from_prefixes a b prefixes (λ u v h g same. one_delegated view u v (All-contains (HasLifetimes view) a u are_a.lifetimes h) (All-contains (HasLifetimes view) b v are_b.lifetimes g) same)
