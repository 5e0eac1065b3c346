-- Assignments that were kept long enough are applied (RFC 7695, section 4.3).
use Rattle.std.specs.Prelude.{ℕ, ◌-◌, if◌then◌else◌, nat_le, true}
use Rattle.hn_pair.specs.declared.assigned.Assigned.{Assigned}

-- marked applied, where it was kept for 10,000 ms
abbrev pub marked_applied : ℕ → Assigned → Assigned
marked_applied now c = if nat_le 10000 (now - c.since) then record c { applied = true } else c
