use Rattle.std.specs.Prelude.{◌≡◌, ℕ, ◌+◌, ◌-◌, ◌*◌, ◌/◌, ◌%◌, ◌^◌, ◌<◌, ◌≤◌}
use Rattle.std.specs.declared.cmp.Ordering.{Ordering}
use Rattle.std.specs.Ordering.{on, then_cmp, nat_cmp}

-- a prefix as contracts see it: an address, and how many of its leftmost bits are the prefix (RFC 4291, section 2.3)
pub record PlainPrefix : Type 0 where
  pub bits : ℕ
  pub len : ℕ

-- a prefix has at most the 128 bits of an address, and no bit is set past its length
pub record IsPrefix (p : PlainPrefix) : Type 0 where
  pub len_in_range : p.len ≤ 128
  pub bits_in_range : p.bits < 2 ^ 128
  pub no_bit_past_len : p.bits % 2 ^ (128 - p.len) ≡ 0

-- the leftmost bits of an address, as many as the length says
abbrev pub leftmost_bits : ℕ → ℕ → ℕ
leftmost_bits address len = address / 2 ^ (128 - len)

-- an address is inside a prefix where it begins with the prefix's bits
abbrev pub IsInside : ℕ → PlainPrefix → Type 0
IsInside address p = leftmost_bits address p.len ≡ leftmost_bits p.bits p.len

-- the prefix of some length that an address is inside: the leftmost bits of the address, and zeros past them
abbrev pub prefix_containing : ℕ → ℕ → PlainPrefix
prefix_containing address len = record { bits = leftmost_bits address len * 2 ^ (128 - len); len = len }

-- the highest address inside a prefix: ones in the bits past its length
abbrev pub last_address : PlainPrefix → ℕ
last_address p = p.bits + 2 ^ (128 - p.len) - 1

-- each address inside the first prefix is inside the second
abbrev pub IsWithin : PlainPrefix → PlainPrefix → Type 0
IsWithin inner outer = (address : ℕ) → IsInside address inner → IsInside address outer

-- some address is inside both prefixes
abbrev pub Overlaps : PlainPrefix → PlainPrefix → Type 0
Overlaps p q = (address : ℕ) × IsInside address p × IsInside address q

-- prefixes in order: by their bits, and of equal bits the shorter first
abbrev pub prefix_cmp : PlainPrefix → PlainPrefix → Ordering
prefix_cmp = then_cmp (on (λ p. p.bits) nat_cmp) (on (λ p. p.len) nat_cmp)
