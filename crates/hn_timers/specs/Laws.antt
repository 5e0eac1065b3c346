-- Laws of timers.
use Rattle.std.specs.Prelude.{ℕ, ◌<◌, ◌≤◌, ◌↔◌, IsTrue}
use Rattle.hn_timers.specs.Interval.{Interval}
use Rattle.hn_timers.specs.KeepAlive.{is_expired, expires_at, is_keep_alive_due, silence_end}
use Rattle.hn_timers.specs.Due.{IsIntervalDue, IsIntervalUndue}

-- A silent peer is expired from one moment on.
abbrev pub ExpiryIsAMoment : Type 0
ExpiryIsAMoment =
    (contact interval now : ℕ) → 0 < interval → IsTrue (is_expired contact interval now) ↔ (expires_at contact interval ≤ now)

-- A keep-alive is due from one moment on.
abbrev pub SilenceIsAMoment : Type 0
SilenceIsAMoment = (sent now : ℕ) → IsTrue (is_keep_alive_due sent now) ↔ (silence_end sent ≤ now)

-- Where nothing is due in an interval, nothing is until something is.
abbrev pub UndueIntervalStays : Type 0
UndueIntervalStays =
    (i : Interval) (now later : ℕ) → now ≤ later → IsIntervalUndue now i → ((m : ℕ) → IsIntervalDue i m → now < m → later < m)
    → IsIntervalUndue later i
