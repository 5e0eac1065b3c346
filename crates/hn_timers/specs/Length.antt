use Rattle.std.specs.Prelude.{◌≡◌, ℕ, ◌*◌, ◌^◌, ◌≤◌, min}

-- The lengths of an interval, in milliseconds: Imin of 200, doubled up to seven times (RFC 6206, section 4.1;
-- the two constants are those of RFC 7788, section 3).
abbrev pub IsLength : ℕ → Type 0
IsLength n = (j : ℕ) × (j ≤ 7) × (n ≡ 200 * 2 ^ j)

-- the length after this one (RFC 6206, section 4.2, step 5)
abbrev pub next_length : ℕ → ℕ
next_length n = min (2 * n) 25600
