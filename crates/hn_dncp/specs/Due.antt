-- The moments at which something is due at an endpoint, and when nothing is.
use Rattle.std.specs.Prelude.{◌≡◌, ℕ, ◌<◌, ◌⊎◌, false, []}
use Rattle.hn_timers.specs.Due.{IsIntervalDue, IsIntervalUndue}
use Rattle.hn_timers.specs.KeepAlive.{silence_end}
use Rattle.hn_dncp.specs.Tick.{tick_words, tick_sends, ticked}
use Rattle.hn_dncp.specs.declared.port.Port.{Port}

-- its interval fires or ends, or a keep-alive is due
abbrev pub IsPortDue : Port → ℕ → Type 0
IsPortDue port m = IsIntervalDue port.trickle m ⊎ (m ≡ silence_end port.sent)

-- nothing is due at the endpoint
pub record IsPortUndue (now : ℕ) (port : Port) : Type 0 where
  pub interval : IsIntervalUndue now port.trickle
  pub recent : now < silence_end port.sent

-- a tick does nothing there: it takes no word, sends nothing, and leaves the endpoint as it was
pub record IsIdleAt (now : ℕ) (port : Port) : Type 0 where
  pub untaken : tick_words now port ≡ 0
  pub unsent : tick_sends now port ≡ false
  pub same : ticked now [] port ≡ port
