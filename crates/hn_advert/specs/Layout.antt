-- A Router Advertisement message and its options, field by field; each number is in network byte order (RFC 4861,
-- sections 4.2, 4.6 and 4.6.2).
use Rattle.std.specs.Prelude.{◌≡◌, ◌≢◌, ℕ, ◌+◌, ◌*◌, ◌^◌, ◌<◌, ◌≤◌, Bool, List, ◌∷◌, ◌++◌, length, if◌then◌else◌}
use Rattle.std.specs.Int.{w16, w32, w128, to_be_bytes}

-- the fields before the options, except type and code, which are the same in every advertisement
pub record Header : Type 0 where
  pub checksum : ℕ
  pub hop_limit : ℕ
  pub managed : Bool
  pub other : Bool
  pub reserved : ℕ
  pub lifetime : ℕ
  pub reachable_time : ℕ
  pub retrans_timer : ℕ

-- each number fits its field
pub record IsHeader (h : Header) : Type 0 where
  pub checksum : h.checksum < 2 ^ 16
  pub hop_limit : h.hop_limit < 2 ^ 8
  pub reserved : h.reserved < 2 ^ 6
  pub lifetime : h.lifetime < 2 ^ 16
  pub reachable_time : h.reachable_time < 2 ^ 32
  pub retrans_timer : h.retrans_timer < 2 ^ 32

-- a byte with the flag M in its highest bit, the flag O in the next one, and six reserved bits
abbrev pub flags_byte : Bool → Bool → ℕ → ℕ
flags_byte managed other reserved = (if managed then 0x80 else 0) + (if other then 0x40 else 0) + reserved

-- the 16 bytes before the options: type 134, code 0, checksum; current hop limit, flags, router lifetime; reachable
-- time; retransmission timer
abbrev pub header_bytes : Header → List ℕ
header_bytes h =
    134 ∷ 0 ∷ to_be_bytes w16 h.checksum
    ++ h.hop_limit ∷ flags_byte h.managed h.other h.reserved ∷ to_be_bytes w16 h.lifetime
    ++ to_be_bytes w32 h.reachable_time
    ++ to_be_bytes w32 h.retrans_timer

-- the fields of a Prefix Information option, except its type and its length
pub record PrefixInformation : Type 0 where
  pub prefix_len : ℕ
  pub flags : ℕ
  pub valid : ℕ
  pub preferred : ℕ
  pub reserved : ℕ
  pub address : ℕ

-- a prefix has at most 128 bits, and each number fits its field
pub record IsPrefixInformation (p : PrefixInformation) : Type 0 where
  pub prefix_len : p.prefix_len ≤ 128
  pub flags : p.flags < 2 ^ 8
  pub valid : p.valid < 2 ^ 32
  pub preferred : p.preferred < 2 ^ 32
  pub reserved : p.reserved < 2 ^ 32
  pub address : p.address < 2 ^ 128

-- the 32 bytes of a Prefix Information option: type 3, length 4, prefix length, flags; valid lifetime; preferred
-- lifetime; reserved; prefix
abbrev pub prefix_information_bytes : PrefixInformation → List ℕ
prefix_information_bytes p =
    3 ∷ 4 ∷ p.prefix_len ∷ p.flags ∷ to_be_bytes w32 p.valid
    ++ to_be_bytes w32 p.preferred
    ++ to_be_bytes w32 p.reserved
    ++ to_be_bytes w128 p.address

-- an option: Prefix Information, or one of another type, with its length and the bytes after these two
pub data NdOption : Type 0 where
  PrefixOption : PrefixInformation → NdOption
  OtherOption : (kind units : ℕ) (body : List ℕ) → NdOption

-- The length of an option is in units of 8 bytes, and counts the two bytes of type and length too. It is not 0.
abbrev pub IsNdOption : NdOption → Type 0
IsNdOption (PrefixOption p) = IsPrefixInformation p
IsNdOption (OtherOption kind units body) = (kind ≢ 3) × (0 < units) × (2 + length body ≡ 8 * units)

abbrev pub option_bytes : NdOption → List ℕ
option_bytes (PrefixOption p) = prefix_information_bytes p
option_bytes (OtherOption kind units body) = kind ∷ units ∷ body
