-- Events of a play, and deliveries.
use Rattle.std.specs.Prelude.{◌≡◌, ◌⊎◌, ℕ, List, Option, None, Some}
use Rattle.std.specs.List.{slice_get}
use Rattle.std.specs.Option.{option_map}
use Rattle.hn_rules.specs.declared.done.Note.{Note}
use Rattle.hn_world.specs.declared.copies.MailCopy.{MailCopy}
use Rattle.hn_world.specs.declared.event.WEvent.{WEvent}
use Rattle.hn_world.specs.declared.event.WEvent.TheVariants as event
use Rattle.hn_world.specs.declared.parts.Parts.{Parts}
use Rattle.hn_world.specs.Refusal.{refusal, copy_at}
use Rattle.hn_world.specs.Step.{IsStep}
use Rattle.hn_play.specs.declared.carrying.Carried.{Carried}
use Rattle.hn_play.specs.declared.carrying.Carried.TheVariants.{Same, Lost, Other}
use Rattle.hn_play.specs.declared.end.Stop.{Stop}
use Rattle.hn_play.specs.declared.end.Stop.TheVariants.{Refused, WireFailed, Cut}
use Rattle.hn_play.specs.Carrying.{Carries, Breaks}
use Rattle.hn_play.specs.Stage.{Stage, Route}
use Rattle.hn_play.specs.Process.{Process, Unless, ThenProcess}

-- an event happens: it takes the next of the words that are to come
pub record Happens (event : WEvent) (notes : List Note) (before after : Stage) : Type 0 where
  pub step : IsStep event notes (Some before.words) (Some after.words) before.world after.world
  pub loss : after.loss ≡ before.loss
  pub route : after.route ≡ before.route
  pub senders : after.senders ≡ before.senders
  pub text : after.text ≡ before.text

-- an event ends: it happens, and routers note this; or it is refused
abbrev pub EventNotes : WEvent → List Note → Process
EventNotes event notes None before after = Happens event notes before after
EventNotes event notes (Some (Refused code)) before after = (refusal before.world event ≡ Some code) × (after ≡ before)
EventNotes event notes (Some WireFailed) before after = ⊥
EventNotes event notes (Some (Cut fault)) before after = after ≡ before

abbrev pub EventEnds : WEvent → Process
EventEnds event stop before after = (notes : List Note) × EventNotes event notes stop before after

-- other bytes in the place of a copy: at its router and endpoint, with its source and its way
abbrev pub injection_for : Parts → MailCopy → List ℕ → Option WEvent
injection_for w c bytes =
    option_map (λ m. event.Inject m.name c.to.endpoint c.from c.multicast bytes) (slice_get w.members c.to.place)

-- A copy is dropped, and an event happens in its place. Where that is refused, the drop stands. There is always such an
-- event.
abbrev pub Replaces : ℕ → Option WEvent → List Note → Process
Replaces copy None notes stop before after = ⊥
Replaces copy (Some other) notes stop before after = ThenProcess (EventEnds (event.Drop copy)) (EventNotes other notes) stop before after

abbrev pub IsReplaced : ℕ → Option WEvent → Process
IsReplaced copy other stop before after = (notes : List Note) × Replaces copy other notes stop before after

-- what a copy comes to by what it was carried to: it is delivered; it is dropped; or other bytes take its place
abbrev pub ComesTo : ℕ → MailCopy → Carried → List Note → Process
ComesTo copy c Same notes stop before after = EventNotes (event.Deliver copy) notes stop before after
ComesTo copy c Lost notes stop before after = EventNotes (event.Drop copy) notes stop before after
ComesTo copy c (Other bytes) notes stop before after = Replaces copy (injection_for before.world c bytes) notes stop before after

abbrev pub ComesToSome : ℕ → MailCopy → Carried → Process
ComesToSome copy c carried stop before after = (notes : List Note) × ComesTo copy c carried notes stop before after

-- the wire fails while a copy is carried: nothing happens
pub record IsBroken (copy : ℕ) (stop : Option Stop) (before after : Stage) : Type 0 where
  pub stop_is : stop ≡ Some WireFailed
  pub mail : MailCopy
  pub is_copy : copy_at before.world copy ≡ Some mail
  pub route : Route
  pub breaks : Breaks mail.bytes before.route route
  pub stays : after ≡ record before { route = route }

-- a copy is carried, and comes to something
pub record IsConveyed (copy : ℕ) (notes : List Note) (stop : Option Stop) (before after : Stage) : Type 0 where
  pub mail : MailCopy
  pub is_copy : copy_at before.world copy ≡ Some mail
  pub carried : Carried
  pub route : Route
  pub carries : Carries mail.bytes carried before.route route
  pub comes : ComesTo copy mail carried notes stop (record before { route = route }) after

abbrev pub Conveys : ℕ → List Note → Process
Conveys copy notes stop before after = IsBroken copy stop before after ⊎ IsConveyed copy notes stop before after

-- a delivery ends: it is refused before a wire is used, or the copy is conveyed
abbrev pub DeliveryEnds : ℕ → List Note → Process
DeliveryEnds copy notes stop before after =
    ThenProcess (Unless (refusal before.world (event.Deliver copy))) (Conveys copy notes) stop before after

-- a copy is delivered, whatever routers note
abbrev pub Delivers : ℕ → Process
Delivers copy stop before after = (notes : List Note) × DeliveryEnds copy notes stop before after
