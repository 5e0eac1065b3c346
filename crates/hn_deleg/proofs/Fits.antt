-- What node data say of a delegation is in range: the lifetimes fit 32 bits, and the prefix is one.
use Rattle.hn_base.proofs.Names.{◌≡◌, ◌⊎◌, ℕ, ◌-◌, ◌*◌, ◌/◌, ◌^◌, ◌<◌, ◌≤◌, List, [], ◌∷◌, Contains, Some, Bool, true, false, cond, eqb, refl, sym, subst, inl, inr, ⊎_elim, arith, min, same_Some}
use Rattle.hn_base.proofs.Names.{none-some, cases_lt, nat_tests, All-weaker, PlainPrefix, IsPrefix}
use Rattle.hn_deleg.proofs.Names.{Contains-cases, nothing_in, from_filter_map, PlainItem, HasDelegation, delegation_of, Delegation, PlainView, IsAnnouncedPrefix, IsLongestLeft, IsOutermost}
use Rattle.hn_deleg.proofs.Names.{HasLifetimes, Delegated}
use Rattle.hn_tlv.specs.Grammar.{PlainTlv}
use Rattle.hn_typed.specs.Item.{Delegated as DelegatedItem}
use Rattle.hn_typed.specs.Table.{InRange, IsItem}
use Rattle.hn_data.specs.Items.{IsReading}
use Rattle.hn_deleg.specs.Laws.{UsableArePrefixes}
use Rattle.hn_deleg.specs.Used.{whole_seconds}

-- each number of the delegation fits its field
pub record IsDelegation (d : Delegation) : Type 0 where
  pub valid : d.valid < 2 ^ 32
  pub preferred : d.preferred < 2 ^ 32
  pub prefix : IsPrefix d.prefix

-- the items of TLVs are in range
read_in_range : (tlvs : List PlainTlv) (items : List PlainItem) (item : PlainItem) → IsReading tlvs items → Contains items item → InRange item
read_in_range [] items item read h = absurd (nothing_in item (subst (λ (l : List PlainItem). Contains l item) read h))
read_in_range (tlv ∷ tlvs) items item read h =
    ⊎_elim (λ (is : (one : PlainItem) × (rest : List PlainItem) × IsItem tlv one × (items ≡ one ∷ rest) × IsReading tlvs rest).
    ⊎_elim (λ (first : is.0 ≡ item). subst InRange first is.2.in_range)
    (λ (later : Contains is.1 item). read_in_range tlvs is.1 item is.4 later)
    (Contains-cases is.0 is.1 item (subst (λ (l : List PlainItem). Contains l item) is.3 h)))
    (λ (none : ((one : PlainItem) → ¬ (IsItem tlv one)) × IsReading tlvs items). read_in_range tlvs items item none.1 h)
    read

of_item : (item : PlainItem) (d : Delegation) → delegation_of item ≡ Some d → InRange item → IsDelegation d
of_item (DelegatedItem valid preferred prefix subs) d is range =
    subst IsDelegation (same_Some (record { valid = valid; preferred = preferred; prefix = prefix }) d is) (record { valid = range.0; preferred = range.1.0; prefix = range.1.1 })
of_item _ d is range = absurd (none-some d is)

pub said_in_range : (bytes : List ℕ) (d : Delegation) → HasDelegation bytes d → IsDelegation d
said_in_range bytes d said =
    let inside = said.2.inside in
    let found = from_filter_map delegation_of inside.0 d inside.2 in
    of_item found.0 d found.2 (read_in_range inside.1.tlvs inside.0 found.0 inside.1.read found.1)

pub candidate_is_prefix : (view : PlainView) (p : PlainPrefix) → IsAnnouncedPrefix view p → IsPrefix p
candidate_is_prefix view p c = subst IsPrefix c.is_it (said_in_range c.node.body c.delegation c.announced.said).prefix

pub usable_prefixes : UsableArePrefixes
usable_prefixes view list are =
    All-weaker (λ (u : Delegated). IsOutermost view u.prefix) (λ (u : Delegated). IsPrefix u.prefix) (λ u is. candidate_is_prefix view u.prefix is.candidate) list are.outermost

-- ---- lifetimes

-- a lifetime that never ends, or the most that one of 4294967294 s has left
abbrev pub IsLifetime : ℕ → Type 0
IsLifetime ms = (ms ≡ 2 ^ 64 - 1) ⊎ (ms ≤ 4294967294000)

remaining_by_test : (b : Bool) (age seconds : ℕ) → eqb seconds 4294967295 ≡ b → seconds < 2 ^ 32 → IsLifetime (cond b (2 ^ 64 - 1) (1000 * seconds - age))
remaining_by_test true age seconds e small = inl refl
remaining_by_test false age seconds e small = let less : 1000 * seconds ≤ 4294967294000 = grind (arith, nat_tests) in inr (omega arith)

whole_by_test : (b : Bool) (ms : ℕ) → eqb ms (2 ^ 64 - 1) ≡ b → IsLifetime ms → cond b 4294967295 (ms / 1000) < 2 ^ 32
whole_by_test true ms e is = omega arith
whole_by_test false ms e is =
    ⊎_elim (λ (endless : ms ≡ 2 ^ 64 - 1). absurd (grind (arith, nat_tests)))
    (λ (few : ms ≤ 4294967294000). omega arith)
    is

whole_fits : (ms : ℕ) → IsLifetime ms → whole_seconds ms < 2 ^ 32
whole_fits ms is = whole_by_test (eqb ms (2 ^ 64 - 1)) ms refl is

greatest_is_lifetime : (view : PlainView) (p : PlainPrefix) (f : Delegation → ℕ) (ms : ℕ) → ((d : Delegation) → IsDelegation d → f d < 2 ^ 32) → IsLongestLeft view p f ms → IsLifetime ms
greatest_is_lifetime view p f ms small g =
    let seconds = f g.delegation in
    subst IsLifetime (sym g.this) (remaining_by_test (eqb seconds 4294967295) g.node.age seconds refl (small g.delegation (said_in_range g.node.body g.delegation g.announced.said)))

min_is_lifetime : (m n : ℕ) → IsLifetime m → IsLifetime n → IsLifetime (min m n)
min_is_lifetime m n is_m is_n =
    ⊎_elim (λ (less : m < n). let same : min m n ≡ m = omega arith in subst IsLifetime (sym same) is_m)
    (λ (rest : n ≤ m). let same : min m n ≡ n = omega arith in subst IsLifetime (sym same) is_n)
    (cases_lt m n)

pub lifetimes_fit : (view : PlainView) (u : Delegated) → HasLifetimes view u → (whole_seconds u.valid < 2 ^ 32) × (whole_seconds u.preferred < 2 ^ 32)
lifetimes_fit view u h =
    let valid = greatest_is_lifetime view u.prefix (λ d. d.valid) u.valid (λ d is. is.valid) h.greatest_valid in
    let preferred = greatest_is_lifetime view u.prefix (λ d. d.preferred) h.preferred (λ d is. is.preferred) h.greatest_preferred in (
      whole_fits u.valid valid,
      whole_fits u.preferred (subst IsLifetime (sym h.cut) (min_is_lifetime h.preferred u.valid preferred valid)),
    )
