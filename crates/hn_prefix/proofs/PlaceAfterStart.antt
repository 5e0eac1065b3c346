-- The place so far after a start, in cyclic order, and that each place before it is taken.
use Rattle.hn_base.proofs.Names.{◌≡◌, ℕ, ◌+◌, ◌-◌, ◌*◌, ◌/◌, ◌%◌, ◌<◌, ◌≤◌, arith, ap, ◌∙◌, sym, subst, inl, inr, List, div-add-mod, mod_below, cases_lt, PlainPrefix, IsPrefix, Overlaps, last_address}
use Rattle.hn_prefix.proofs.Names.{Contains, sub_prefix, sub_prefix_count, sub_prefix_after, next_place, IsFree, IsTakenPrefix}
use Rattle.std.proofs.Math.Nat.{mod-add-mod, add-mod-mod}
use Rattle.std.proofs.lemmas.Nat.{mod-mul-add}
use Rattle.hn_prefix.specs.Free.{IsFull}
use Rattle.hn_prefix.proofs.SubPrefixAtPlace.{IsPlace, Blocks, overlaps_between}

-- the place that the code computes is the one so far after the start
pub place_now : (start ahead counted count : ℕ) → counted ≡ count → (start % counted + ahead) % counted ≡ (start + ahead) % count
place_now start ahead counted count same = mod-add-mod start counted ahead ∙ ap (λ n. (start + ahead) % n) same

pub place_at : (outer : PlainPrefix) (len start ahead counted : ℕ) → IsPrefix outer → outer.len ≤ len → len ≤ 64
    → counted ≡ sub_prefix_count outer len → ahead < counted → IsPlace outer len ((start % counted + ahead) % counted)
place_at outer len start ahead counted valid longer small same before =
    let below : (start % counted + ahead) % counted < counted = mod_below _ _ (omega arith) in
    record { valid = valid; not_shorter = longer; len_in_range = omega arith; below_count = omega arith }

-- going on by k from a place, with no wrap on the way
place_after : (start ahead k count place : ℕ) → place ≡ (start + ahead) % count → place + k < count → (start + (ahead + k)) % count ≡ place + k
place_after start ahead k count place is below =
    let split : count * ((start + ahead) / count) + (start + ahead) % count ≡ start + ahead = div-add-mod (start + ahead) count in
    let sum : start + (ahead + k) ≡ (start + ahead) / count * count + (place + k) = omega arith in
    ap (λ n. n % count) sum ∙ mod-mul-add ((start + ahead) / count) count (place + k) below

-- each place comes somewhere in the cyclic order from a start
place_is_after : (start place count : ℕ) → place < count → (start + (place + count - start % count) % count) % count ≡ place
place_is_after start place count below =
    let split : count * (start / count) + start % count ≡ start = div-add-mod start count in
    let left : start % count < count = mod_below start count (omega arith) in
    let sum : start + (place + count - start % count) ≡ (start / count + 1) * count + place = omega arith in
    add-mod-mod start (place + count - start % count) count ∙ ap (λ n. n % count) sum ∙ mod-mul-add (start / count + 1) count place below

-- no prefix is free and taken
pub not_both : (taken : List PlainPrefix) (p : PlainPrefix) → IsFree taken p → IsTakenPrefix taken p → ⊥
not_both taken p free some =
    let P : PlainPrefix → Type 0 = λ t. Overlaps t p in
    free some.0 some.1 some.2 (subst P (sym some.3) some.4)

-- each place before one so far ahead of the start is taken
pub record EachTakenBefore (taken : List PlainPrefix) (outer : PlainPrefix) (len start ahead : ℕ) : Type 0 where
  pub taken_at : (j : ℕ) → j < ahead → IsTakenPrefix taken (sub_prefix_after outer len start j)

-- so it is after a jump to the place after a taken prefix
pub jumped : (taken : List PlainPrefix) (outer blocker : PlainPrefix) (len start ahead place following : ℕ) → Contains taken blocker
    → Blocks outer blocker len place → following ≡ next_place outer len (last_address blocker) → place ≡ (start + ahead) % sub_prefix_count outer len
    → EachTakenBefore taken outer len start ahead → EachTakenBefore taken outer len start (ahead + (following - place))
jumped taken outer blocker len start ahead place following among blocks following_is is before = record {
  taken_at = λ j below.
      elim (cases_lt j ahead) [
        | inl earlier ↦ before.taken_at j earlier
        | inr later ↦
            let sum : ahead + (j - ahead) ≡ j = omega arith in
            let there : (start + j) % sub_prefix_count outer len ≡ place + (j - ahead) =
            ap (λ n. (start + n) % sub_prefix_count outer len) (sym sum) ∙ place_after start ahead (j - ahead) (sub_prefix_count outer len) place is (omega arith) in
            let P : ℕ → Type 0 = λ n. IsTakenPrefix taken (sub_prefix outer len n) in
            subst P (sym there) (among.0, blocker, among.1, among.2, overlaps_between outer blocker len place (place + (j - ahead)) blocks (omega arith) (omega arith))
      ];
}

-- after a whole round each place is taken
pub whole_round : (taken : List PlainPrefix) (outer : PlainPrefix) (len start ahead : ℕ) → sub_prefix_count outer len ≤ ahead → EachTakenBefore taken outer len start ahead → IsFull outer taken len
whole_round taken outer len start ahead all before place below =
    let count : ℕ = sub_prefix_count outer len in
    let P : ℕ → Type 0 = λ n. IsTakenPrefix taken (sub_prefix outer len n) in
    let in_round : (place + count - start % count) % count < count = mod_below _ _ (omega arith) in
    subst P (place_is_after start place count below) (before.taken_at _ (omega arith))
