-- Those that send, when one is put in place, added or taken out.
use Rattle.hn_base.proofs.Names.{◌≡◌, ◌≤◌, ℕ, Bool, true, false, List, [], length, filter, take, drop, get_or, refl, sym, ap, arith, insert, nat_le, beq, IsPartitionedBy, IsPartitionPoint, eqb-true}
use Rattle.hn_base.proofs.Names.{lt-ltb, le-ltb, leb-true, leb-false}
use Rattle.std.specs.Prelude.{nat_lt, Decides}
use Rattle.std.proofs.Math.Dec.{eqb}
use Rattle.std.proofs.lemmas.List.Kept.{IsNonDecreasingBy-filter}
use Rattle.std.proofs.lemmas.List.Sorted.{IsNonDecreasingBy-insert, IsPartitionedBy-leb}
use Rattle.hn_base.proofs.FrontOfList.{filter-front, filter-back}
use Rattle.hn_senders.specs.Senders.{sender_number, AreInOrder, placed}
use Rattle.hn_senders.specs.declared.senders.Sending.{Sending}
use Rattle.hn_senders.specs.declared.senders.Shape.{Shape}

-- shapes with equal fields are equal
pub same_shape : (a b : Shape) → a.managed ≡ b.managed → a.other ≡ b.other → a.lifetime ≡ b.lifetime → a.prefixes ≡ b.prefixes → a ≡ b
same_shape a b managed other lifetime prefixes =
    λ i. record { managed = managed i; other = other i; lifetime = lifetime i; prefixes = prefixes i }

same_flag : (a b : Bool) → beq a b ≡ true → a ≡ b
same_flag true true is = refl
same_flag true false is = absurd cc
same_flag false true is = absurd cc
same_flag false false is = refl

-- what the tests of their fields tell
pub shape_told : (a b : Shape) (r : Bool) → beq a.managed b.managed ≡ true → beq a.other b.other ≡ true → eqb a.lifetime b.lifetime ≡ true → Decides r (a.prefixes ≡ b.prefixes) → Decides r (a ≡ b)
shape_told a b r managed other lifetime prefixes = (
  λ is. same_shape a b (same_flag a.managed b.managed managed) (same_flag a.other b.other other) (eqb-true a.lifetime b.lifetime lifetime) (prefixes.0 is),
  λ same. prefixes.1 (ap (λ (x : Shape). x.prefixes) same),
)

-- ---- the order

pub order-none : AreInOrder []
order-none i j d le within = absurd (omega arith)

pub order-filter : (p : Sending → Bool) (senders : List Sending) → AreInOrder senders → AreInOrder (filter p senders)
order-filter p senders are = IsNonDecreasingBy-filter sender_number p senders are

-- the place at which the higher endpoints begin
abbrev pub IsPlaceFor : Sending → List Sending → ℕ → Type 0
IsPlaceFor s senders i = IsPartitionPoint (λ (t : Sending). nat_le (sender_number t) (sender_number s) ≡ true) (λ (t : Sending). nat_le (sender_number t) (sender_number s) ≡ false) senders i

pub order-partitioned : (at : ℕ) (senders : List Sending) → AreInOrder senders → IsPartitionedBy (λ t. nat_le (sender_number t) at) senders
order-partitioned at senders are = IsPartitionedBy-leb sender_number senders at are

pub order-insert : (s : Sending) (senders : List Sending) (i : ℕ) → AreInOrder senders → i ≤ length senders → IsPlaceFor s senders i → AreInOrder (insert senders i s)
order-insert s senders i are within parts =
    IsNonDecreasingBy-insert sender_number senders i s are within
    (λ k d less. leb-true _ _ (parts.0 k d (omega arith) less))
    (λ k d past less. let lower = leb-false _ _ (parts.1 k d past less) in omega arith)

pub placed-insert : (s : Sending) (senders : List Sending) (i : ℕ) → i ≤ length senders → IsPlaceFor s senders i → insert senders i s ≡ placed s senders
placed-insert s senders i within parts =
    let front : take i senders ≡ filter (λ t. nat_le (sender_number t) (sender_number s)) senders =
    sym (filter-front (λ (t : Sending). nat_le (sender_number t) (sender_number s)) senders i (λ k d less within'. parts.0 k d (omega arith) less) (λ k d past less. parts.1 k d past less))
    in
    let back : drop i senders ≡ filter (λ t. nat_lt (sender_number s) (sender_number t)) senders =
    sym (filter-back (λ (t : Sending). nat_lt (sender_number s) (sender_number t)) senders i
    (λ k d less within'. let low = leb-true _ _ (parts.0 k d (omega arith) less) in le-ltb (sender_number s) (sender_number (get_or senders k d)) low)
    (λ k d past less. let high = leb-false _ _ (parts.1 k d past less) in lt-ltb (sender_number s) (sender_number (get_or senders k d)) high))
    in
    cc
