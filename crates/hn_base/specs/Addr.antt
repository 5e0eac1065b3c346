use Rattle.std.specs.Prelude.{◌≡◌, ℕ, ◌/◌, ◌^◌}

-- the first ten of an address's 128 bits are 1111111010 (RFC 4291, section 2.5.6)
abbrev pub IsLinkLocal : ℕ → Type 0
IsLinkLocal ip = ip / 2 ^ 118 ≡ 0b11_1111_1010
