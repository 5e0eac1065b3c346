use Rattle.std.specs.Prelude.{ℕ, ◌+◌, ◌-◌, ◌/◌, ◌%◌, ◌^◌, ◌<◌, ◌≤◌, min, Bool, false, not, ◌&&◌, ◌||◌, ◌==◌, nat_le}
use Rattle.hn_timers.specs.Length.{IsLength}

-- An interval of a Trickle timer (RFC 6206, section 4.2), in milliseconds: when it begins, its length I, when the
-- timer fires, how many consistent messages were heard, and whether the timer has fired.
pub record Interval : Type 0 where
  pub begin : ℕ
  pub len : ℕ
  pub fire : ℕ
  pub heard : ℕ
  pub done : Bool

-- What holds of each interval of a timer: its length is one of the eight, it begins at a moment of at most 2^48, and
-- the timer fires in its second half.
pub record IsInterval (i : Interval) : Type 0 where
  pub of_length : IsLength i.len
  pub begin_in_range : i.begin ≤ 2 ^ 48
  pub in_second_half : i.begin + i.len / 2 ≤ i.fire
  pub before_end : i.fire < i.begin + i.len

-- The interval that begins then, with this length; the word says when in its second half it fires (step 2).
abbrev pub interval_from : ℕ → ℕ → ℕ → Interval
interval_from begin len word = record {
  begin = begin;
  len = len;
  fire = begin + len / 2 + word % (len / 2);
  heard = 0;
  done = false;
}

-- a consistent message is counted (step 3); the count stays at 2^32 - 1
abbrev pub one_more_heard : Interval → Interval
one_more_heard i = record i { heard = min (i.heard + 1) (2 ^ 32 - 1) }

-- the timer's time has come, it has not fired, and no consistent message was heard: so a message is sent (step 4)
abbrev pub has_to_send : ℕ → Interval → Bool
has_to_send now i = not i.done && nat_le i.fire now && i.heard == 0

-- once its time has come, the timer has fired
abbrev pub fired : ℕ → Interval → Interval
fired now i = record i { done = i.done || nat_le i.fire now }

-- the interval is over (step 5)
abbrev pub is_interval_over : ℕ → Interval → Bool
is_interval_over now i = nat_le (i.begin + i.len) now
