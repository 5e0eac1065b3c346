-- The events into which `flow` and `run` are expanded.
use Rattle.std.specs.Prelude.{◌≡◌, ◌≢◌, ◌⊎◌, ◌≤◌, ◌<◌, ◌+◌, ◌%◌, ◌||◌, ◌==◌, if◌then◌else◌, nat_lt, min, ℕ, suc, Bool, true, false, Option, None, Some}
use Rattle.std.specs.List.{slice_get}
use Rattle.hn_world.specs.declared.copies.MailCopy.{MailCopy}
use Rattle.hn_world.specs.declared.event.WEvent.TheVariants as event
use Rattle.hn_world.specs.Receivers.{is_away, running_names}
use Rattle.hn_world.specs.Waiting.{first_waiting}
use Rattle.hn_play.specs.declared.end.Stop.{Stop}
use Rattle.hn_play.specs.declared.end.Stop.TheVariants.{Refused}
use Rattle.hn_play.specs.Stage.{Stage}
use Rattle.hn_play.specs.Process.{Process, ThenProcess, EachProcess, Until}
use Rattle.hn_play.specs.Sending.{TickEnds}
use Rattle.hn_play.specs.Delivery.{EventEnds, Delivers}

-- A copy is treated: one whose receiver is away is dropped; with a loss above 0 one word decides whether it is dropped;
-- else it is delivered. Copies are numbered from 1.
abbrev pub is_lost : Stage → MailCopy → Bool
is_lost p c = is_away p.world c || nat_lt (p.words 0 % 100) p.loss

abbrev pub TreatmentEnds : Bool → ℕ → Process
TreatmentEnds true copy stop before after = EventEnds (event.Drop copy) stop before after
TreatmentEnds false copy stop before after = Delivers copy stop before after

-- the word that decides is drawn
abbrev pub drawn : Stage → MailCopy → Stage
drawn p c = if is_away p.world c || p.loss == 0 then p else record p { words = λ place. p.words (suc place) }

-- the first copy that waits is treated
pub record CopyEnds (stop : Option Stop) (before after : Stage) : Type 0 where
  pub place : ℕ
  pub copy : MailCopy
  pub first : first_waiting before.world.copies ≡ Some place
  pub is_copy : slice_get before.world.copies place ≡ Some copy
  pub ends : TreatmentEnds (is_lost before copy) (suc place) stop (drawn before copy) after

abbrev pub HasWaiting : Stage → Type 0
HasWaiting p = first_waiting p.world.copies ≢ None

-- `flow`: the copies that wait are treated in order of their numbers, new ones included, until none waits
abbrev pub Flow : Process
Flow stop before after = Until HasWaiting CopyEnds stop before after

-- the routers that run tick, in order of definition, and send their Router Advertisements
abbrev pub Ticks : Process
Ticks stop before after = EachProcess TickEnds (running_names before.world) stop before after

-- time passes by a step, but not past the end
abbrev pub Passes : ℕ → ℕ → Process
Passes end step stop before after = EventEnds (event.Time (min (before.world.moment + step) end)) stop before after

-- a round of `run`: time passes, the routers that run tick, and the mail flows
abbrev pub Round : ℕ → ℕ → Process
Round end step stop before after = ThenProcess (Passes end step) (ThenProcess Ticks Flow) stop before after

-- `run`: rounds until a moment, which may not lie before the present one
abbrev pub Runs : ℕ → ℕ → Process
Runs end step stop before after =
    ((end < before.world.moment) × (stop ≡ Some (Refused 10)) × (after ≡ before))
    ⊎ ((before.world.moment ≤ end) × Until (λ p. p.world.moment < end) (Round end step) stop before after)
