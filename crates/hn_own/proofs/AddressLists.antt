-- A router's own addresses: in order, few, and each of an attached endpoint.
use Rattle.hn_base.proofs.Names.{◌≡◌, ◌<◌, ◌+◌, ℕ, zero, suc, Bool, true, false, not, List, [], ◌∷◌, length, get_or, refl, sym, subst, arith, All, ◌==◌, ◌&&◌, nat_le, Less, Equal, Greater}
use Rattle.hn_base.proofs.Names.{IsTotalOrder, AllByRecursion, IsAllAdjacentAnswer, list_all, is_lt, and_parts, leb-true, nat_cmp_total, on_total, then_total, IsStrictlySortedBy-filter}
use Rattle.hn_base.proofs.Names.{AllPass-from_list_all, length-filter, count_by-le-length}
use Rattle.hn_own.proofs.Names.{EpId, Port, OwnAddress, address_cmp, addresses_without, is_attached}
use Rattle.std.specs.Prelude.{IsTrue}
use Rattle.std.specs.declared.cmp.Ordering.{Ordering}
use Rattle.std.specs.List.Sorted.{IsStrictlySortedBy}
use Rattle.hn_own.specs.Addresses.{AreAddresses, ascends, may_address}

address_total : IsTotalOrder address_cmp
address_total = then_total (on_total (λ (a : OwnAddress). a.0.0) nat_cmp_total) (on_total (λ (a : OwnAddress). a.1) nat_cmp_total)

-- ---- none, and some

pub AreAddresses-none : AreAddresses []
unfolding IsStrictlySortedBy
AreAddresses-none = record { ascending = tt; few = omega arith }

pub AreAddresses-without : (at : EpId) (list : List OwnAddress) → AreAddresses list → AreAddresses (addresses_without at list)
AreAddresses-without at list are =
    let stays : OwnAddress → Bool = λ a. not (a.0.0 == at.0) in
    record {
      ascending = IsStrictlySortedBy-filter address_cmp stays list are.ascending;
      few = let few = are.few in omega (arith, length-filter stays list, count_by-le-length stays list);
    }

-- ---- each before the next

-- what comes after the next one of a list is what comes after one of its rest
next_is : (a : OwnAddress) (rest : List OwnAddress) (k : ℕ) (d : OwnAddress) → get_or (a ∷ rest) (suc k + 1) d ≡ get_or rest (k + 1) d
next_is a rest k d = let one : suc k + 1 ≡ suc (k + 1) = omega arith in rw one refl

all_ascend : (list : List OwnAddress) → ((k : ℕ) (d : OwnAddress) → k + 1 < length list → true ≡ is_lt (address_cmp (get_or list k d) (get_or list (k + 1) d)))
    → ascends list ≡ true
all_ascend [] each = refl
all_ascend (a ∷ []) each = refl
all_ascend (a ∷ b ∷ rest) each =
    let first : is_lt (address_cmp a b) ≡ true = sym (each 0 a (omega arith)) in
    let others : ascends (b ∷ rest) ≡ true = all_ascend (b ∷ rest)
    (λ k d less. subst (λ (x : OwnAddress). true ≡ is_lt (address_cmp (get_or (b ∷ rest) k d) x)) (next_is a (b ∷ rest) k d) (each (suc k) d (omega arith))) in
    rw (first, others) refl

one_falls : (list : List OwnAddress) (k : ℕ) → k + 1 < length list → ((d : OwnAddress) → false ≡ is_lt (address_cmp (get_or list k d) (get_or list (k + 1) d)))
    → ascends list ≡ false
one_falls [] k less at = absurd (omega arith)
one_falls (a ∷ []) k less at = absurd (omega arith)
one_falls (a ∷ b ∷ rest) zero less at =
    let first : is_lt (address_cmp a b) ≡ false = sym (at a) in
    rw first refl
one_falls (a ∷ b ∷ rest) (suc k) less at =
    let others : ascends (b ∷ rest) ≡ false = one_falls (b ∷ rest) k (omega arith)
    (λ d. subst (λ (x : OwnAddress). false ≡ is_lt (address_cmp (get_or (b ∷ rest) k d) x)) (next_is a (b ∷ rest) k d) (at d)) in
    by_first (is_lt (address_cmp a b)) others
  where
    by_first : (first : Bool) → ascends (b ∷ rest) ≡ false → (first && ascends (b ∷ rest)) ≡ false
    by_first true others = others
    by_first false others = refl

pub ascends_from_answer : (list : List OwnAddress) (r : Bool) → IsAllAdjacentAnswer (λ x y b. b ≡ is_lt (address_cmp x y)) list r → r ≡ ascends list
ascends_from_answer list true each = sym (all_ascend list each)
ascends_from_answer list false found = sym (one_falls list found.0 found.1 found.2)

-- ---- a list that may be the own addresses

less_from_is_lt : (o : Ordering) → is_lt o ≡ true → o ≡ Less
less_from_is_lt Less is = refl
less_from_is_lt Equal is = absurd (cc)
less_from_is_lt Greater is = absurd (cc)

above_head : (a b : OwnAddress) (rest : List OwnAddress) → address_cmp a b ≡ Less → AllByRecursion (λ c. address_cmp b c ≡ Less) rest → AllByRecursion (λ c. address_cmp a c ≡ Less) rest
above_head a b [] before all = tt
above_head a b (c ∷ rest) before all = (address_total.trans a b c before all.0, above_head a b rest before all.1)

pub sorted_from_ascends : (list : List OwnAddress) → ascends list ≡ true → IsStrictlySortedBy address_cmp list
unfolding IsStrictlySortedBy
sorted_from_ascends [] is = tt
sorted_from_ascends (a ∷ []) is = (tt, tt)
sorted_from_ascends (a ∷ b ∷ rest) is =
    let parts = and_parts (is_lt (address_cmp a b)) (ascends (b ∷ rest)) is in
    let before = less_from_is_lt (address_cmp a b) parts.0 in
    let others = sorted_from_ascends (b ∷ rest) parts.1 in
    ((before, above_head a b rest before others.0), others)

pub may_be : (list : List OwnAddress) (ports : List Port) → may_address list ports ≡ true → AreAddresses list × All (λ a. IsTrue (is_attached a.0 ports)) list
may_be list ports may =
    let parts = and_parts (ascends list) (nat_le (length list) 64 && list_all (λ a. is_attached a.0 ports) list) may in
    let others = and_parts (nat_le (length list) 64) (list_all (λ a. is_attached a.0 ports) list) parts.1 in
    (record { ascending = sorted_from_ascends list parts.0; few = leb-true (length list) 64 others.0 }, AllPass-from_list_all (λ (a : OwnAddress). is_attached a.0 ports) list others.1)
