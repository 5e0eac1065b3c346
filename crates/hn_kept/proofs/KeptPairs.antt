-- Which pairs have their preferred prefix, and what earlier pairs have.
use Rattle.hn_base.proofs.Names.{◌≡◌, ◌∙◌, ℕ, Bool, true, false, List, Contains, Some, refl, sym, ap, subst, inl, inr, and_parts, and_from, eqb-true, eq-eqb, cases_Bool}
use Rattle.hn_base.proofs.Names.{not, is_some, ◌==◌, ◌&&◌, false≢true, PlainPrefix, Ordering, Less, Equal, Greater, is_lt, IsTotalOrder, IsExact, filter, on, on_total, IsStrictlySortedBy-filter}
use Rattle.hn_base.proofs.AscendingLists.{ascending_unique}
use Rattle.hn_base.proofs.Elements.{any_of, any_from, in_filter, from_filter}
use Rattle.hn_base.proofs.Keys.{same_id}
use Rattle.hn_base.proofs.Prefixes.{same_prefix}
use Rattle.hn_pair.specs.declared.assigned.Assigned.{Assigned}
use Rattle.hn_pair.specs.declared.pair.Pair.{Pair}
use Rattle.hn_pair.specs.Pair.{IsAscending, assigned_pair, pair_cmp}
use Rattle.hn_kept.specs.declared.preferred.Preferred.{Preferred}
use Rattle.std.specs.Ordering.{is_le}
use Rattle.hn_kept.specs.Choosing.{earlier_ones, first_ones}
use Rattle.hn_kept.specs.Preferred.{preferred_pair, is_of_pair, is_kept, is_anew, is_missed}

same_pair : (x y : Pair) → x.delegated ≡ y.delegated → x.endpoint ≡ y.endpoint → x ≡ y
same_pair x y delegated endpoint = λ i. record { delegated = delegated i; endpoint = endpoint i }

-- ---- of the pair

is_one : (p q : PlainPrefix) → (p.bits == q.bits && p.len == q.len) ≡ true → p ≡ q
is_one p q is = let (bits, len) = and_parts (p.bits == q.bits) (p.len == q.len) is in same_prefix p q (eqb-true p.bits q.bits bits) (eqb-true p.len q.len len)

one_is : (p q : PlainPrefix) → p ≡ q → (p.bits == q.bits && p.len == q.len) ≡ true
one_is p q same = and_from (p.bits == q.bits) (p.len == q.len) (eq-eqb p.bits q.bits (ap (λ (x : PlainPrefix). x.bits) same)) (eq-eqb p.len q.len (ap (λ (x : PlainPrefix). x.len) same))

pub of_pair : (f : Preferred) (c : Assigned) → is_of_pair f c ≡ true → assigned_pair c ≡ preferred_pair f
of_pair f c is =
    let (endpoint, delegated) = and_parts (c.endpoint.0 == f.endpoint.0) (c.delegated.bits == f.delegated.bits && c.delegated.len == f.delegated.len) is in
    same_pair (assigned_pair c) (preferred_pair f) (is_one c.delegated f.delegated delegated) (same_id c.endpoint f.endpoint (eqb-true c.endpoint.0 f.endpoint.0 endpoint))

pub pair_of : (f : Preferred) (c : Assigned) → assigned_pair c ≡ preferred_pair f → is_of_pair f c ≡ true
pair_of f c same =
    and_from (c.endpoint.0 == f.endpoint.0) (c.delegated.bits == f.delegated.bits && c.delegated.len == f.delegated.len)
    (eq-eqb c.endpoint.0 f.endpoint.0 (ap (λ (p : Pair). p.endpoint.0) same)) (one_is c.delegated f.delegated (ap (λ (p : Pair). p.delegated) same))

-- ---- which have it

pub kept_is : (f : Preferred) (assigned : List Assigned) → is_kept assigned f ≡ true → (c : Assigned) × Contains assigned c × (assigned_pair c ≡ preferred_pair f) × (c.prefix ≡ f.prefix)
kept_is f assigned is =
    let (c, there, passes) = any_of (λ (c : Assigned). is_of_pair f c && (c.prefix.bits == f.prefix.bits && c.prefix.len == f.prefix.len)) assigned is in
    let (of, prefix) = and_parts (is_of_pair f c) (c.prefix.bits == f.prefix.bits && c.prefix.len == f.prefix.len) passes in
    (c, there, of_pair f c of, is_one c.prefix f.prefix prefix)

pub is_kept_by : (f : Preferred) (assigned : List Assigned) (c : Assigned) → Contains assigned c → assigned_pair c ≡ preferred_pair f → c.prefix ≡ f.prefix → is_kept assigned f ≡ true
is_kept_by f assigned c there same prefix =
    any_from (λ (c : Assigned). is_of_pair f c && (c.prefix.bits == f.prefix.bits && c.prefix.len == f.prefix.len)) assigned c there
    (and_from (is_of_pair f c) (c.prefix.bits == f.prefix.bits && c.prefix.len == f.prefix.len) (pair_of f c same) (one_is c.prefix f.prefix prefix))

-- a pair with another prefix, published from this moment on, is missed
pub is_missed_by : (now priority : ℕ) (f : Preferred) (assigned : List Assigned) (c : Assigned) → Contains assigned c → assigned_pair c ≡ preferred_pair f → c.since ≡ now → c.published ≡ Some priority
    → is_kept assigned f ≡ false → is_missed now assigned f ≡ true
is_missed_by now priority f assigned c there same since published not_kept =
    and_from (not (is_kept assigned f)) (is_anew now assigned f) (ap not not_kept)
    (any_from (λ (c : Assigned). is_of_pair f c && (c.since == now && is_some c.published)) assigned c there
    (and_from (is_of_pair f c) (c.since == now && is_some c.published) (pair_of f c same)
    (and_from (c.since == now) (is_some c.published) (eq-eqb c.since now since) (ap is_some published))))

-- one that is missed does not have its prefix
pub missed_not_kept : (now : ℕ) (f : Preferred) (assigned : List Assigned) → is_missed now assigned f ≡ true → is_kept assigned f ≡ true → ⊥
missed_not_kept now f assigned missed kept =
    let (not_kept, since) = and_parts (not (is_kept assigned f)) (is_anew now assigned f) missed in
    false≢true (sym (ap not kept) ∙ not_kept)

-- a pair that has one assignment, and that with another prefix, does not have it
pub not_kept_by : (f : Preferred) (assigned : List Assigned) (c : Assigned) → ((a b : Assigned) → Contains assigned a → Contains assigned b → assigned_pair a ≡ assigned_pair b → a ≡ b)
    → Contains assigned c → assigned_pair c ≡ preferred_pair f → ¬ (c.prefix ≡ f.prefix) → is_kept assigned f ≡ false
not_kept_by f assigned c one there same other = elim (cases_Bool (is_kept assigned f)) [
  | inl is ↦ let (d, in_d, pair, prefix) = kept_is f assigned is in
      absurd (other (ap (λ (x : Assigned). x.prefix) (one c d there in_d (same ∙ sym pair)) ∙ prefix))
  | inr is ↦ is
]

-- ---- the assignments of earlier pairs

-- those of a pair that comes before another one are among them
pub among_earlier : (pair : Pair) (assigned : List Assigned) (c : Assigned) → Contains assigned c → pair_cmp (assigned_pair c) pair ≡ Less → Contains (earlier_ones pair assigned) c
among_earlier pair assigned c there less = in_filter (λ (x : Assigned). is_lt (pair_cmp (assigned_pair x) pair)) assigned c there (ap is_lt less)

pub less_of : (o : Ordering) → is_lt o ≡ true → o ≡ Less
less_of Less is = refl
less_of Equal is = absurd (false≢true is)
less_of Greater is = absurd (false≢true is)

pub from_earlier : (pair : Pair) (assigned : List Assigned) (c : Assigned) → Contains (earlier_ones pair assigned) c → Contains assigned c × (pair_cmp (assigned_pair c) pair ≡ Less)
from_earlier pair assigned c there =
    let (is_in, below) = from_filter (λ (x : Assigned). is_lt (pair_cmp (assigned_pair x) pair)) assigned c there in
    (is_in, less_of (pair_cmp (assigned_pair c) pair) below)

-- where the earlier pairs have the same, one of them has what it has
pub stays_along : (pair : Pair) (a b : List Assigned) → earlier_ones pair a ≡ earlier_ones pair b → (c : Assigned) → pair_cmp (assigned_pair c) pair ≡ Less → Contains a c → Contains b c
stays_along pair a b same c less there = (from_earlier pair b c (subst (λ (xs : List Assigned). Contains xs c) same (among_earlier pair a c there less))).0

pub kept_along : (pair : Pair) (g : Preferred) (a b : List Assigned) → earlier_ones pair a ≡ earlier_ones pair b → pair_cmp (preferred_pair g) pair ≡ Less → is_kept a g ≡ true → is_kept b g ≡ true
kept_along pair g a b same less kept =
    let (c, there, of, prefix) = kept_is g a kept in
    let first : pair_cmp (assigned_pair c) pair ≡ Less = subst (λ (p : Pair). pair_cmp p pair ≡ Less) (sym of) less in
    is_kept_by g b c (stays_along pair a b same c first there) of prefix

-- what passes a test is the same in lists that ascend, where each one that passes is in both
same_passing : IsTotalOrder pair_cmp → (test : Assigned → Bool) (a b : List Assigned) → IsAscending assigned_pair a → IsAscending assigned_pair b
    → ((c : Assigned) → test c ≡ true → Contains a c → Contains b c) → ((c : Assigned) → test c ≡ true → Contains b c → Contains a c) → filter test a ≡ filter test b
same_passing total test a b up_a up_b there back =
    ascending_unique (on assigned_pair pair_cmp) (on_total assigned_pair total) (filter test a) (filter test b)
    (IsStrictlySortedBy-filter (on assigned_pair pair_cmp) test a up_a) (IsStrictlySortedBy-filter (on assigned_pair pair_cmp) test b up_b)
    (λ c. (
      λ h. let (is_in, passes) = from_filter test a c h in in_filter test b c (there c passes is_in) passes,
      λ h. let (is_in, passes) = from_filter test b c h in in_filter test a c (back c passes is_in) passes,
    ))

-- lists that have the same of the earlier pairs
pub same_earlier : IsTotalOrder pair_cmp → (pair : Pair) (a b : List Assigned) → IsAscending assigned_pair a → IsAscending assigned_pair b
    → ((c : Assigned) → pair_cmp (assigned_pair c) pair ≡ Less → Contains a c → Contains b c)
    → ((c : Assigned) → pair_cmp (assigned_pair c) pair ≡ Less → Contains b c → Contains a c) → earlier_ones pair a ≡ earlier_ones pair b
same_earlier total pair a b up_a up_b there back =
    same_passing total (λ c. is_lt (pair_cmp (assigned_pair c) pair)) a b up_a up_b
    (λ c below. there c (less_of (pair_cmp (assigned_pair c) pair) below)) (λ c below. back c (less_of (pair_cmp (assigned_pair c) pair) below))

-- they have the same of a pair that comes before, and of those before that
pub same_first : IsTotalOrder pair_cmp → IsExact pair_cmp → (early late : Pair) (a b : List Assigned) → IsAscending assigned_pair a → IsAscending assigned_pair b
    → pair_cmp early late ≡ Less → earlier_ones late a ≡ earlier_ones late b → first_ones early a ≡ first_ones early b
same_first total exact early late a b up_a up_b less same =
    same_passing total (λ c. is_le (pair_cmp (assigned_pair c) early)) a b up_a up_b
    (λ c upto. stays_along late a b same c (before c (pair_cmp (assigned_pair c) early) refl upto))
    (λ c upto. stays_along late b a (sym same) c (before c (pair_cmp (assigned_pair c) early) refl upto))
  where
    before : (c : Assigned) (o : Ordering) → pair_cmp (assigned_pair c) early ≡ o → is_le o ≡ true → pair_cmp (assigned_pair c) late ≡ Less
    before c Less is upto = total.trans (assigned_pair c) early late is less
    before c Equal is upto = subst (λ (p : Pair). pair_cmp p late ≡ Less) (sym (exact (assigned_pair c) early is)) less
    before c Greater is upto = absurd (false≢true upto)
