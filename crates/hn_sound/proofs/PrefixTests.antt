-- Tests that compute whether a written-out home is one, and whether it is at rest.
use Rattle.hn_base.proofs.Names.{◌≡◌, ℕ, ◌/◌, ◌-◌, ◌^◌, inl, inr, Bool, true, false, not, List, sym, ◌∙◌, arith, ◌==◌, nat_le, list_all, cases_lt, eqb-true, eq-eqb, leb-true, and_parts, or_left}
use Rattle.hn_base.proofs.Names.{or_right, All-contains, AllPass-from_list_all, PlainPrefix, IsInside, IsWithin, Overlaps}
use Rattle.hn_sound.proofs.Names.{◌&&◌, ◌||◌, Contains}
use Rattle.hn_base.proofs.LeadingBits.{alike_in_shorter}

-- ---- words

abbrev pub implies : Bool → Bool → Bool
implies a b = not a || b

pub then_true : (a b : Bool) → implies a b ≡ true → a ≡ true → b ≡ true
then_true true b h is = h
then_true false b h is = absurd (cc)

pub each_passes : {X : Type 0} (p : X → Bool) (xs : List X) (x : X) → list_all p xs ≡ true → Contains xs x → p x ≡ true
each_passes p xs x h there = All-contains (λ y. p y ≡ true) xs x (AllPass-from_list_all p xs h) there

-- ---- prefixes

abbrev pub begins_with : ℕ → PlainPrefix → Bool
begins_with address p = (address / 2 ^ (128 - p.len)) == (p.bits / 2 ^ (128 - p.len))

pub to_begins_with : (address : ℕ) (p : PlainPrefix) → IsInside address p → begins_with address p ≡ true
to_begins_with address p inside = eq-eqb (address / 2 ^ (128 - p.len)) (p.bits / 2 ^ (128 - p.len)) inside

from_begins_with : (address : ℕ) (p : PlainPrefix) → begins_with address p ≡ true → IsInside address p
from_begins_with address p h = eqb-true (address / 2 ^ (128 - p.len)) (p.bits / 2 ^ (128 - p.len)) h

abbrev pub is_within : PlainPrefix → PlainPrefix → Bool
is_within inner outer = nat_le outer.len inner.len && begins_with inner.bits outer

pub within_from : (inner outer : PlainPrefix) → is_within inner outer ≡ true → IsWithin inner outer
within_from inner outer h address inside =
    let parts = and_parts (nat_le outer.len inner.len) (begins_with inner.bits outer) h in
    alike_in_shorter address inner.bits outer.len inner.len (leb-true outer.len inner.len parts.0) inside ∙ from_begins_with inner.bits outer parts.1

abbrev pub may_overlap : PlainPrefix → PlainPrefix → Bool
may_overlap p q = begins_with p.bits q || begins_with q.bits p

pub to_may_overlap : (p q : PlainPrefix) → Overlaps p q → may_overlap p q ≡ true
to_may_overlap p q (address, in_p, in_q) =
    elim (cases_lt p.len q.len) [
      | inl shorter ↦ or_right (begins_with p.bits q) (begins_with q.bits p) (to_begins_with q.bits p (alike_in_shorter q.bits address p.len q.len (omega arith) (sym in_q) ∙ in_p))
      | inr longer ↦ or_left (begins_with p.bits q) (begins_with q.bits p) (to_begins_with p.bits q (alike_in_shorter p.bits address q.len p.len longer (sym in_p) ∙ in_q))
    ]
