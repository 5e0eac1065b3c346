-- The moments at which something is due, and when nothing is.
use Rattle.std.specs.Prelude.{◌≡◌, ℕ, ◌+◌, ◌<◌, ◌⊎◌, true, false}
use Rattle.hn_timers.specs.Interval.{Interval}
use Rattle.hn_timers.specs.KeepAlive.{expires_at}

-- an interval that has not fired fires, and an interval ends (RFC 6206, section 4.2, steps 4 and 5)
abbrev pub IsIntervalDue : Interval → ℕ → Type 0
IsIntervalDue i m = ((i.done ≡ false) × (m ≡ i.fire)) ⊎ (m ≡ i.begin + i.len)

-- nothing is due in the interval: it has fired or its time has not come, and it is not over
pub record IsIntervalUndue (now : ℕ) (i : Interval) : Type 0 where
  pub waits : (i.done ≡ true) ⊎ (now < i.fire)
  pub lasts : now < i.begin + i.len

-- a peer that promised keep-alives is gone from this moment on, if nothing is heard of it
abbrev pub IsExpiryMoment : ℕ → ℕ → ℕ → Type 0
IsExpiryMoment contact interval m = (0 < interval) × (m ≡ expires_at contact interval)
