-- The moments at which something that is held is due.
use Rattle.std.specs.Prelude.{◌≡◌, ℕ, ◌+◌, ◌⊎◌, false, Contains}
use Rattle.hn_pair.specs.declared.assigned.Assigned.{Assigned}
use Rattle.hn_pair.specs.declared.backoff.Backoff.{Backoff}
use Rattle.hn_pair.specs.declared.held.Held.{Held}

-- a backoff is due
abbrev pub IsBackoffDue : Backoff → ℕ → Type 0
IsBackoffDue b m = m ≡ b.due

-- an assignment that is not marked applied is 10,000 ms old
abbrev pub IsMarkDue : Assigned → ℕ → Type 0
IsMarkDue c m = (c.applied ≡ false) × (m ≡ c.since + 10000)

-- a backoff is due, or an assignment that is not marked applied is 10,000 ms old (RFC 7695, section 4.3)
abbrev pub IsHeldDue : Held → ℕ → Type 0
IsHeldDue held m =
    ((b : Backoff) × Contains held.backoffs b × (m ≡ b.due))
    ⊎ ((c : Assigned) × Contains held.assigned c × (c.applied ≡ false) × (m ≡ c.since + 10000))
