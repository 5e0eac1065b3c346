-- Masks of ones, and an address without the bits of one.
use Rattle.hn_base.proofs.Names.{◌≡◌, ℕ, ◌+◌, ◌-◌, ◌*◌, ◌/◌, ◌^◌, ◌%◌, ◌<◌, ◌≤◌, bit_and, arith, ap, ◌∙◌, mod-add-div', IsPrefix, prefix_containing}
use Rattle.std.proofs.lemmas.Nat.{and_mask}
use Rattle.std.proofs.Math.Nat.{mul-mod_left}

-- a mask of k ones keeps what is left by a division by 2 ^ k
pub and_host_mask : (bits mask k : ℕ) → mask + 1 ≡ 2 ^ k → bit_and bits mask ≡ bits % 2 ^ k
and_host_mask bits mask k ones =
    let is : mask ≡ 2 ^ k - 1 = omega arith in
    ap (λ m. bit_and bits m) is ∙ and_mask bits k

-- an address without the bits of a mask of k ones
pub cleared : (bits mask k : ℕ) → mask + 1 ≡ 2 ^ k → bits - bit_and bits mask ≡ bits / 2 ^ k * 2 ^ k
cleared bits mask k ones = omega (arith, and_host_mask bits mask k ones, mod-add-div' bits (2 ^ k))

pub containing_is_prefix : (address len : ℕ) → address < 2 ^ 128 → len ≤ 128 → IsPrefix (prefix_containing address len)
containing_is_prefix address len fits in_range = record {
  len_in_range = in_range;
  bits_in_range = omega (arith, mod-add-div' address (2 ^ (128 - len)));
  no_bit_past_len = mul-mod_left (address / 2 ^ (128 - len)) (2 ^ (128 - len));
}
