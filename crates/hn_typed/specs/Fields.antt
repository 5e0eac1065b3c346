-- The fields of an item's value, as bytes in network byte order (RFC 7787, section 7; RFC 7788, section 10).
use Rattle.std.specs.Prelude.{◌≡◌, ℕ, ◌+◌, ◌*◌, ◌/◌, ◌⊎◌, List, [], ◌∷◌, ◌++◌, length, take, replicate, All}
use Rattle.std.specs.Int.{w32, w128, to_be_bytes}
use Rattle.hn_base.specs.Byte.{IsByte}
use Rattle.hn_tlv.specs.Grammar.{padding, HasTlvs}
use Rattle.hn_base.specs.Prefix.{PlainPrefix}

-- a number of 4 bytes
abbrev pub word : ℕ → List ℕ
word n = to_be_bytes w32 n

-- two numbers below 16 in one byte, the first in the upper four bits
abbrev pub two_in_byte : ℕ → ℕ → ℕ
two_in_byte upper lower = 16 * upper + lower

-- how many bytes hold so many bits
abbrev pub bytes_for : ℕ → ℕ
bytes_for bits = (bits + 7) / 8

-- a prefix: its length, and of its 16 bytes the first ones, as many as hold that many bits
abbrev pub prefix_field : PlainPrefix → List ℕ
prefix_field prefix = prefix.len ∷ take (bytes_for prefix.len) (to_be_bytes w128 prefix.bits)

-- Following a fixed part of this length stands nothing, and there are no sub-TLVs; or zero bytes up to the next multiple
-- of 4, and then a list of TLVs, which may be empty.
abbrev pub ThenSubs : ℕ → List ℕ → List ℕ → Type 0
ThenSubs len after subs = HasTlvs subs × (((after ≡ []) × (subs ≡ [])) ⊎ (after ≡ replicate (padding len) 0 ++ subs))

-- the value is this fixed part, and then these sub-TLVs
abbrev pub HasSubs : List ℕ → List ℕ → List ℕ → Type 0
HasSubs fixed subs value = (after : List ℕ) × (value ≡ fixed ++ after) × ThenSubs (length fixed) after subs

-- the hash of a network's or a node's state: 8 bytes
abbrev pub IsHash : List ℕ → Type 0
IsHash hash = (length hash ≡ 8) × All IsByte hash
