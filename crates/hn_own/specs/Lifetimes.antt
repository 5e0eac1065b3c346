-- Lifetimes of delegated prefixes, kept as the moments at which they end (RFC 7788, section 10.2.1).
use Rattle.std.specs.Prelude.{ℕ, ◌+◌, ◌-◌, ◌*◌, ◌^◌, ◌==◌, nat_le, min, Bool, false, if◌then◌else◌, Option, None, Some}
use Rattle.std.specs.Int.{div_ceil}

-- when a lifetime of so many seconds ends that begins now; one of 4294967295 s never ends
abbrev pub end_after : ℕ → ℕ → Option ℕ
end_after now seconds = if seconds == 4294967295 then None else Some (now + 1000 * seconds)

-- whether a lifetime has ended
abbrev pub has_ended : ℕ → Option ℕ → Bool
has_ended now None = false
has_ended now (Some end) = nat_le end now

-- the seconds of it that are left, rounded up: 4294967295 for one that never ends, and fewer for each other
abbrev pub seconds_left : ℕ → Option ℕ → ℕ
seconds_left now None = 2 ^ 32 - 1
seconds_left now (Some end) = min (div_ceil (end - now) 1000) (2 ^ 32 - 2)
