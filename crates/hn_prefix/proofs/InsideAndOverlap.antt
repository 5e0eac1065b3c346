-- The addresses inside a prefix are a range; one prefix is within another, or overlaps it, where their ranges are or do.
use Rattle.hn_base.proofs.Names.{◌≡◌, ℕ, ◌+◌, ◌-◌, ◌*◌, ◌/◌, ◌%◌, ◌^◌, ◌<◌, ◌≤◌, ◌↔◌, ◌⊎◌, inl, inr, refl, arith, ap, ◌∙◌, sym, le_refl, div-add-mod, pow_below, pow_pos, pow-add, mul-le, cases_lt}
use Rattle.hn_base.proofs.Names.{PlainPrefix, IsPrefix, IsInside, IsWithin, Overlaps, last_address}
use Rattle.std.proofs.Math.Nat.{div-eq_of_lt-le}
use Rattle.std.proofs.lemmas.Nat.{shr_below}
use Rattle.hn_base.proofs.LeadingBits.{alike_in_shorter}

-- a number in one block with a multiple of the blocks' size is not below the multiple, nor a size above it
from_same_block : (a b size : ℕ) → b % size ≡ 0 → a / size ≡ b / size → 0 < size → (b ≤ a) × (a < b + size)
from_same_block a b size multiple same positive =
    let split_a : size * (a / size) + a % size ≡ a = div-add-mod a size in
    let split_b : size * (b / size) + b % size ≡ b = div-add-mod b size in
    let products : size * (a / size) ≡ size * (b / size) = ap (λ q. size * q) same in
    (omega arith, omega arith)

-- and the other way round
same_block : (a b size : ℕ) → b % size ≡ 0 → b ≤ a → a < b + size → a / size ≡ b / size
same_block a b size multiple above below =
    let split : size * (b / size) + b % size ≡ b = div-add-mod b size in
    div-eq_of_lt-le {k = b / size} size {m = a} (omega arith) (omega arith)

-- the addresses inside a prefix are those from its lowest to its highest
pub from_inside : (p : PlainPrefix) (a : ℕ) → IsPrefix p → IsInside a p → (p.bits ≤ a) × (a ≤ last_address p)
from_inside p a valid inside =
    let range = from_same_block a p.bits (2 ^ (128 - p.len)) valid.no_bit_past_len inside (pow_pos (128 - p.len)) in
    (range.0, omega arith)

pub inside_from_range : (p : PlainPrefix) (a : ℕ) → IsPrefix p → p.bits ≤ a → a ≤ last_address p → IsInside a p
inside_from_range p a valid above below =
    let positive = pow_pos (128 - p.len) in
    same_block a p.bits (2 ^ (128 - p.len)) valid.no_bit_past_len above (omega arith)

pub first_le_last : (p : PlainPrefix) → p.bits ≤ last_address p
first_le_last p = omega (arith, pow_pos (128 - p.len))

-- a block of numbers below a power of two ends there, or before
pub block_fits : (bits k n : ℕ) → k ≤ n → bits < 2 ^ n → bits % 2 ^ k ≡ 0 → bits + 2 ^ k ≤ 2 ^ n
block_fits bits k n small below multiple =
    let whole : (n - k) + k ≡ n = omega arith in
    let wide : bits < 2 ^ ((n - k) + k) = rw whole below in
    let blocks : bits / 2 ^ k + 1 ≤ 2 ^ (n - k) = omega (arith, shr_below bits (n - k) k wide) in
    let covered : (bits / 2 ^ k + 1) * 2 ^ k ≤ 2 ^ (n - k) * 2 ^ k = mul-le _ _ _ _ blocks (le_refl (2 ^ k)) in
    let split : 2 ^ k * (bits / 2 ^ k) + bits % 2 ^ k ≡ bits = div-add-mod bits (2 ^ k) in
    let product : 2 ^ n ≡ 2 ^ (n - k) * 2 ^ k = ap (λ m. 2 ^ m) (sym whole) ∙ pow-add 2 (n - k) k in
    omega arith

-- a prefix is within another where its range of addresses is
pub within_range : (p q : PlainPrefix) → IsPrefix p → IsPrefix q → IsWithin q p ↔ (p.bits ≤ q.bits) × (last_address q ≤ last_address p)
within_range p q valid_p valid_q = (
  (λ within.
      let first = from_inside p q.bits valid_p (within q.bits refl) in
      let last = from_inside p (last_address q) valid_p (within (last_address q) (inside_from_range q (last_address q) valid_q (first_le_last q) (le_refl (last_address q)))) in
      (first.0, last.1)),
  (λ ranges a inside.
      let range = from_inside q a valid_q inside in
      inside_from_range p a valid_p (omega arith) (omega arith)),
)

-- and then it is not shorter
pub not_shorter : (p q : PlainPrefix) → IsPrefix p → IsPrefix q → IsWithin p q → q.len ≤ p.len
not_shorter p q valid_p valid_q within =
    let range = (within_range q p valid_q valid_p).0 within in
    elim (cases_lt p.len q.len) [
      | inl shorter ↦ absurd (
          let smaller : 2 ^ (128 - q.len) < 2 ^ (128 - p.len) = pow_below (128 - q.len) (128 - p.len) (omega (arith, valid_q.len_in_range, shorter)) in
          omega (arith, range.0, range.1, smaller, pow_pos (128 - p.len), pow_pos (128 - q.len)))
      | inr longer ↦ longer
    ]

-- two prefixes overlap where their ranges of addresses do
pub overlap_range : (p q : PlainPrefix) → IsPrefix p → IsPrefix q → Overlaps p q ↔ (p.bits ≤ last_address q) × (q.bits ≤ last_address p)
overlap_range p q valid_p valid_q = (
  (λ overlap.
      let in_p = from_inside p overlap.0 valid_p overlap.1 in
      let in_q = from_inside q overlap.0 valid_q overlap.2 in
      (omega arith, omega arith)),
  (λ ranges.
      elim (cases_lt p.bits q.bits) [
        | inl before ↦ (q.bits, inside_from_range p q.bits valid_p (omega arith) ranges.1, refl)
        | inr after ↦ (p.bits, refl, inside_from_range q p.bits valid_q after ranges.0)
      ]),
)

-- of two prefixes that overlap the longer is within the other
within_shorter : (short long : PlainPrefix) → short.len ≤ long.len → Overlaps short long → IsWithin long short
within_shorter short long shorter overlap a inside =
    alike_in_shorter a overlap.0 short.len long.len shorter (inside ∙ sym overlap.2) ∙ overlap.1

pub overlap_is_nesting_lem : (p q : PlainPrefix) → Overlaps p q ↔ (IsWithin p q ⊎ IsWithin q p)
overlap_is_nesting_lem p q = (
  (λ overlap.
      elim (cases_lt p.len q.len) [
        | inl shorter ↦ inr (within_shorter p q (omega arith) overlap)
        | inr longer ↦ inl (within_shorter q p longer (overlap.0, overlap.2, overlap.1))
      ]),
  (λ nested.
      elim nested [
        | inl inner ↦ (p.bits, refl, inner p.bits refl)
        | inr outer ↦ (q.bits, outer q.bits refl, refl)
      ]),
)
