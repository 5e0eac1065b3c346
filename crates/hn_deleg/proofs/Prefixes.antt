-- What a comparison of two prefixes tells, and that a prefix comes before those strictly inside it.
use Rattle.hn_base.proofs.Names.{◌≡◌, ◌≢◌, ◌⊎◌, ◌↔◌, ◌-◌, ◌^◌, ◌<◌, ◌≤◌, Ordering, true, false, eqb, refl, sym, ap, inl, inr, ⊎_elim, arith, ◌&&◌, Less, Equal, Greater, nat_cmp_is, nat_cmp}
use Rattle.hn_base.proofs.Names.{ordering_then, not_from_Decides, pow_pos, pow_below, PlainPrefix, IsPrefix, IsWithin, Overlaps, last_address, prefix_cmp}
use Rattle.hn_base.proofs.AscendingLists.{exact_nat}
use Rattle.hn_base.proofs.AscendingNumbers.{lt_from_less}
use Rattle.hn_base.proofs.Prefixes.{is_one_prefix, prefix_decided}

-- the laws of hn_prefix: a prefix is within another where its range of addresses is
abbrev pub WithinIsRange : Type 0
WithinIsRange = (p q : PlainPrefix) → IsPrefix p → IsPrefix q → IsWithin q p ↔ (p.bits ≤ q.bits) × (last_address q ≤ last_address p)

-- two prefixes overlap where their ranges do
abbrev pub OverlapIsRange : Type 0
OverlapIsRange = (p q : PlainPrefix) → IsPrefix p → IsPrefix q → Overlaps p q ↔ (p.bits ≤ last_address q) × (q.bits ≤ last_address p)

-- two prefixes overlap where one is within the other
abbrev pub OverlapIsNesting : Type 0
OverlapIsNesting = (p q : PlainPrefix) → Overlaps p q ↔ (IsWithin p q ⊎ IsWithin q p)

-- what a comparison of two prefixes tells
pub prefix_from_test : (p q : PlainPrefix) → true ≡ (eqb p.bits q.bits && eqb p.len q.len) → p ≡ q
prefix_from_test p q h = (prefix_decided p q).0 (sym h)

pub other_from_test : (p q : PlainPrefix) → false ≡ (eqb p.bits q.bits && eqb p.len q.len) → p ≢ q
other_from_test p q h = not_from_Decides (is_one_prefix p q) (prefix_decided p q) (sym h)

then_less : (a b : Ordering) → ordering_then a b ≡ Less → (a ≡ Less) ⊎ ((a ≡ Equal) × (b ≡ Less))
then_less Less b h = inl refl
then_less Equal b h = inr (refl, h)
then_less Greater b h = absurd (cc)

less_cases : (p q : PlainPrefix) → prefix_cmp p q ≡ Less → (p.bits < q.bits) ⊎ ((p.bits ≡ q.bits) × (p.len < q.len))
less_cases p q h =
    ⊎_elim (λ (less : nat_cmp p.bits q.bits ≡ Less). inl (lt_from_less p.bits q.bits less))
    (λ (tie : (nat_cmp p.bits q.bits ≡ Equal) × (nat_cmp p.len q.len ≡ Less)). inr (exact_nat p.bits q.bits tie.0, lt_from_less p.len q.len tie.1))
    (then_less (nat_cmp p.bits q.bits) (nat_cmp p.len q.len) h)

pub less_bits : (p q : PlainPrefix) → prefix_cmp p q ≡ Less → p.bits ≤ q.bits
less_bits p q h = ⊎_elim (λ (less : p.bits < q.bits). omega arith) (λ (tie : (p.bits ≡ q.bits) × (p.len < q.len)). omega arith) (less_cases p q h)

-- the bits decide where they differ
pub cmp_from_bits : (p q : PlainPrefix) → p.bits < q.bits → prefix_cmp p q ≡ Less
cmp_from_bits p q h = ap (λ o. ordering_then o (nat_cmp p.len q.len)) (sym (nat_cmp_is p.bits q.bits Less h))

-- a prefix comes before those that are strictly inside it
pub not_within_later : WithinIsRange → (p q : PlainPrefix) → IsPrefix p → IsPrefix q → prefix_cmp p q ≡ Less → ¬ (IsWithin p q)
not_within_later within_range p q valid_p valid_q before within =
    let range = (within_range q p valid_q valid_p).0 within in
    ⊎_elim (λ (less : p.bits < q.bits). omega arith)
    (λ (tie : (p.bits ≡ q.bits) × (p.len < q.len)).
    let len_p = valid_p.len_in_range in
    let len_q = valid_q.len_in_range in
    let smaller : 2 ^ (128 - q.len) < 2 ^ (128 - p.len) = pow_below (128 - q.len) (128 - p.len) (omega arith) in
    let positive = pow_pos (128 - q.len) in
    omega arith)
    (less_cases p q before)
