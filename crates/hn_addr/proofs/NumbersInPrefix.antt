-- The addresses that numbers make.
use Rattle.hn_base.proofs.Names.{◌≡◌, ◌↔◌, ◌∙◌, ℕ, ◌+◌, ◌-◌, ◌*◌, ◌/◌, ◌%◌, ◌^◌, ◌<◌, ◌≤◌, min, sym, ap, subst, inl, inr, arith, lt-div-mul-add, pow-le-pow_right, cases_lt, pow_pos, pow-add}
use Rattle.hn_base.proofs.Names.{PlainPrefix, IsPrefix}
use Rattle.std.proofs.Math.Nat.{mul-le-mul_right, lt_of_mul-lt-mul_right, suc-mul, min-eq_left, min-eq_right, min-le_right}
use Rattle.std.proofs.lemmas.Nat.{div-mul-add, div-add-mod'}
use Rattle.hn_addr.specs.Laws.{NumberIsInside}

-- ---- a number below a size, past a multiple of it

module _ (bits size k : ℕ) (some : 0 < size) (whole : bits % size ≡ 0) where
  pub blocks : bits / size * size ≡ bits
  blocks = let parts = div-add-mod' bits size in omega (arith, parts, whole)

  same_block : k < size → (bits + k) / size ≡ bits / size
  same_block less = subst (λ (b : ℕ). (b + k) / size ≡ bits / size) blocks (div-mul-add (bits / size) size k less)

  below_size : (bits + k) / size ≡ bits / size → k < size
  below_size same =
      let less : bits + k < (bits + k) / size * size + size = lt-div-mul-add some in
      let less' : bits + k < bits / size * size + size = subst (λ (q : ℕ). bits + k < q * size + size) same less in
      let less'' : bits + k < bits + size = subst (λ (b : ℕ). bits + k < b + size) blocks less' in
      omega arith

pub number_inside : NumberIsInside
number_inside p k is = (
  same_block p.bits (2 ^ (128 - p.len)) k (pow_pos (128 - p.len)) is.no_bit_past_len,
  below_size p.bits (2 ^ (128 - p.len)) k (pow_pos (128 - p.len)) is.no_bit_past_len,
)

-- ---- the address of a number is one

-- below a multiple there is room for one block more
one_block : (q p size : ℕ) → q * size < p * size → q * size + size ≤ p * size
one_block q p size less = subst (λ (n : ℕ). n ≤ p * size) (suc-mul q size) (mul-le-mul_right size (lt_of_mul-lt-mul_right size less))

room : (a b size total k : ℕ) → a ≡ b → a + size ≤ total → k < size → b + k < total
room a b size total k same fits less = omega arith

lengths : (len : ℕ) → len ≤ 128 → len + (128 - len) ≡ 128
lengths len fits = omega arith

pub address_fits : (p : PlainPrefix) (k : ℕ) → IsPrefix p → k < 2 ^ (128 - p.len) → p.bits + k < 2 ^ 128
address_fits p k is less =
    let size = 2 ^ (128 - p.len) in
    let parts : 2 ^ p.len * size ≡ 2 ^ 128 = sym (pow-add 2 p.len (128 - p.len)) ∙ ap (λ (n : ℕ). 2 ^ n) (lengths p.len is.len_in_range) in
    let whole : p.bits / size * size ≡ p.bits = blocks p.bits size k (pow_pos (128 - p.len)) is.no_bit_past_len in
    let below : p.bits < 2 ^ p.len * size = subst (λ (n : ℕ). p.bits < n) (sym parts) is.bits_in_range in
    let fits = one_block (p.bits / size) (2 ^ p.len) size (subst (λ (b : ℕ). b < 2 ^ p.len * size) (sym whole) below) in
    subst (λ (n : ℕ). p.bits + k < n) parts (room (p.bits / size * size) p.bits size (2 ^ p.len * size) k whole fits less)

-- ---- how many numbers have at most 16 bits, and make an address inside

least_of_two : (a b k : ℕ) → a ≤ b → k < a → k < b
least_of_two a b k le less = omega arith

two : 0 < 2
two = omega arith

pub count_is : (h k : ℕ) → (k < 2 ^ min h 16) ↔ (k ≤ 65535) × (k < 2 ^ h)
count_is h k = elim (cases_lt h 16) [
  | inl short ↦
      let is : min h 16 ≡ h = min-eq_left (let shorter : h ≤ 16 = omega (arith, short) in shorter) in
      let shorter : h ≤ 16 = omega (arith, short) in
      let at_most : 2 ^ h ≤ 2 ^ 16 = pow-le-pow_right {n = 2} two shorter in
      subst (λ (n : ℕ). (k < 2 ^ n) ↔ (k ≤ 65535) × (k < 2 ^ h)) (sym is) (λ less. (omega (arith, less, at_most), less), λ both. both.1)
  | inr long ↦
      let is : min h 16 ≡ 16 = min-eq_right long in
      let at_least : 2 ^ 16 ≤ 2 ^ h = pow-le-pow_right {n = 2} two long in
      subst (λ (n : ℕ). (k < 2 ^ n) ↔ (k ≤ 65535) × (k < 2 ^ h)) (sym is)
      (λ less. (omega (arith, less), least_of_two (2 ^ 16) (2 ^ h) k at_least less), λ both. let low = both.0 in omega (arith, low))
]

-- as it is computed
small_mod : (n : ℕ) → n ≤ 65536 → 1 * n % 4294967296 ≡ n
small_mod n small = omega arith

pub count_from : (bits h k : ℕ) → bits ≡ min h 16 → (k < 1 * 2 ^ bits % 4294967296) ↔ (k ≤ 65535) × (k < 2 ^ h)
count_from bits h k is =
    let few : bits ≤ 16 = subst (λ (n : ℕ). n ≤ 16) (sym is) (min-le_right h 16) in
    let same : 1 * 2 ^ bits % 4294967296 ≡ 2 ^ min h 16 = small_mod (2 ^ bits) (pow-le-pow_right {n = 2} two few) ∙ ap (λ (n : ℕ). 2 ^ n) is in
    subst (λ (n : ℕ). (k < n) ↔ (k ≤ 65535) × (k < 2 ^ h)) (sym same) (count_is h k)
