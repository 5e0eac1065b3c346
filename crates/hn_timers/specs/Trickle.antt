use Rattle.hn_timers.specs.Interval.{Interval}
use Rattle.hn_timers.specs.declared.trickle.Trickle.TheInside.{Inside}

-- the interval that a timer is in
abbrev pub interval : Inside → Interval
interval t = record { begin = t.begin; len = t.len; fire = t.fire; heard = t.heard; done = t.done }
