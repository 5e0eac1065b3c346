use Rattle.std.specs.Prelude.{ℕ, ◌+◌, ◌-◌, ◌%◌, ◌^◌, ◌≤◌}

-- a sequence number is older than another where their difference modulo 2^32 has its highest bit set (RFC 7787,
-- section 4.4); both are below 2^32
abbrev pub IsOlder : ℕ → ℕ → Type 0
IsOlder a b = 2 ^ 31 ≤ (a + 2 ^ 32 - b) % 2 ^ 32
