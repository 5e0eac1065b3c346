-- Events, deliveries, a flow, a run, choices and an exchange keep what stays over turns and other lines.
use Rattle.hn_base.proofs.Names.{◌<◌, inl, inr, ℕ, suc, Bool, true, false, List, Option, None, Some, refl, sym, ap, subst, ◌||◌, ◌==◌, if◌then◌else◌}
use Rattle.hn_spacing.proofs.Names.{Name, Note, Line, WEvent, Refused, WireFailed, Cut, EventNotes, EventEnds, DeliveryEnds, Unless, ThenProcess, EachProcess, Turns, Stage, TellsLines}
use Rattle.std.specs.Prelude.{◌+◌, min}
use Rattle.hn_rules.specs.declared.state.State.{State}
use Rattle.hn_sync.specs.Exchange.{unless_exchange}
use Rattle.hn_world.specs.declared.copies.MailCopy.{MailCopy}
use Rattle.hn_world.specs.declared.event.WEvent.TheVariants as event
use Rattle.hn_world.specs.Asked.{unless_runs}
use Rattle.hn_world.specs.Receivers.{is_away, running_names}
use Rattle.hn_world.specs.Refusal.{refusal}
use Rattle.hn_play.specs.declared.carrying.Carried.{Carried}
use Rattle.hn_play.specs.declared.carrying.Carried.TheVariants.{Same, Lost, Other}
use Rattle.hn_lab.specs.Choosing.{MayHappen, MakesChoice, Chooses}
use Rattle.hn_play.specs.Delivery.{injection_for, Replaces, ComesTo, Conveys}
use Rattle.hn_play.specs.Events.{TreatmentEnds, CopyEnds, HasWaiting, Flow, Ticks, Passes, Round, Runs, drawn, is_lost}
use Rattle.hn_play.specs.Sending.{TickEnds}
use Rattle.hn_lab.specs.Syncing.{Exchanges, SyncEnds}
use Rattle.hn_spacing.proofs.InvariantsOfPlays.{IsInvariant}
use Rattle.hn_spacing.proofs.KeptByProcesses.{Keeps, keeps_at, keeps_nothing, keeps_unless, keeps_then, keeps_each, keeps_until}
use Rattle.hn_spacing.proofs.NoRaLines.{AreNoRaLines}

module _ (Holds : Stage → Type 0) (MayBe : Line → Type 0) (invariant : IsInvariant Holds MayBe) where
  -- ---- an event

  pub keeps_noting : (event : WEvent) (notes : List Note) → Keeps Holds (EventNotes event notes)
  keeps_noting event notes None p a h holds = invariant.stays p a h.senders h.text holds
  keeps_noting event notes (Some (Refused code)) p a h holds = subst Holds (sym h.1) holds
  keeps_noting event notes (Some WireFailed) p a h holds = absurd h
  keeps_noting event notes (Some (Cut fault)) p a h holds = subst Holds (sym h) holds

  pub keeps_event : (event : WEvent) → Keeps Holds (EventEnds event)
  keeps_event event c p a h = keeps_noting event h.0 c p a h.1

  -- ---- a delivery

  replaced : (copy : ℕ) (other : Option WEvent) (notes : List Note) → Keeps Holds (Replaces copy other notes)
  replaced copy None notes = λ c p a h. absurd h
  replaced copy (Some other) notes = keeps_then Holds (EventEnds (event.Drop copy)) (EventNotes other notes) (keeps_event (event.Drop copy)) (keeps_noting other notes)

  comes_to : (copy : ℕ) (mail : MailCopy) (carried : Carried) (notes : List Note) → Keeps Holds (ComesTo copy mail carried notes)
  comes_to copy mail Same notes = keeps_noting (event.Deliver copy) notes
  comes_to copy mail Lost notes = keeps_noting (event.Drop copy) notes
  comes_to copy mail (Other bytes) notes =
      keeps_at Holds (λ p. Replaces copy (injection_for p.world mail bytes) notes) (λ p. replaced copy (injection_for p.world mail bytes) notes)

  conveyed : (copy : ℕ) (notes : List Note) → Keeps Holds (Conveys copy notes)
  conveyed copy notes c p a (inl h) holds = subst Holds (sym h.stays) (invariant.stays p (record p { route = h.route }) refl refl holds)
  conveyed copy notes c p a (inr h) holds =
      comes_to copy h.mail h.carried notes c (record p { route = h.route }) a h.comes (invariant.stays p (record p { route = h.route }) refl refl holds)

  pub keeps_delivery : (copy : ℕ) (notes : List Note) → Keeps Holds (DeliveryEnds copy notes)
  keeps_delivery copy notes = keeps_at Holds
      (λ p. ThenProcess (Unless (refusal p.world (event.Deliver copy))) (Conveys copy notes))
      (λ p. keeps_then Holds (Unless (refusal p.world (event.Deliver copy))) (Conveys copy notes) (keeps_unless Holds (refusal p.world (event.Deliver copy))) (conveyed copy notes))

  -- ---- the mail flows

  treated : (lost : Bool) (copy : ℕ) → Keeps Holds (TreatmentEnds lost copy)
  treated true copy = keeps_event (event.Drop copy)
  treated false copy = λ c p a h. keeps_delivery copy h.0 c p a h.1

  word_drawn : (p : Stage) (c : MailCopy) → Holds p → Holds (drawn p c)
  word_drawn p c holds = by_test (is_away p.world c || p.loss == 0)
    where
      by_test : (b : Bool) → Holds (if b then p else record p { words = λ place. p.words (suc place) })
      by_test true = holds
      by_test false = invariant.stays p (record p { words = λ place. p.words (suc place) }) refl refl holds

  copy_ends : Keeps Holds CopyEnds
  copy_ends c p a h holds = treated (is_lost p h.copy) (suc h.place) c (drawn p h.copy) a h.ends (word_drawn p h.copy holds)

  pub keeps_flow : Keeps Holds Flow
  keeps_flow = keeps_until Holds HasWaiting CopyEnds copy_ends

  -- ---- a run

  ticked : (name : Name) → Keeps Holds (TickEnds name)
  ticked name = keeps_then Holds (EventEnds (event.Tick name)) (Turns name) (keeps_event (event.Tick name)) (invariant.turns name)

  all_ticked : Keeps Holds Ticks
  all_ticked = keeps_at Holds (λ p. EachProcess TickEnds (running_names p.world)) (λ p. keeps_each Holds TickEnds ticked (running_names p.world))

  passed : (end step : ℕ) → Keeps Holds (Passes end step)
  passed end step = keeps_at Holds (λ p. EventEnds (event.Time (min (p.world.moment + step) end))) (λ p. keeps_event (event.Time (min (p.world.moment + step) end)))

  a_round : (end step : ℕ) → Keeps Holds (Round end step)
  a_round end step = keeps_then Holds (Passes end step) (ThenProcess Ticks Flow) (passed end step) (keeps_then Holds Ticks Flow all_ticked keeps_flow)

  pub keeps_run : (end step : ℕ) → Keeps Holds (Runs end step)
  keeps_run end step c p a (inl h) holds = subst Holds (sym h.2) holds
  keeps_run end step c p a (inr h) holds = keeps_until Holds (λ s. s.world.moment < end) (Round end step) (a_round end step) c p a h.1 holds

  -- ---- choices

  may_happen : (event : Option WEvent) → Keeps Holds (MayHappen event)
  may_happen None = keeps_nothing Holds
  may_happen (Some event) = keeps_event event

  module _ {A : Type 0} (name : Name) (IsMadeBy : State → A → List ℕ → Type 0) (event_for : A → Option WEvent) (told_of : A → List (List ℕ)) where
    chosen : ((made : A) → AreNoRaLines (told_of made)) → Keeps Holds (MakesChoice name IsMadeBy event_for told_of)
    chosen no_ra c p a h holds =
        let tells = invariant.tells (told_of h.made) (no_ra h.made) in
        keeps_then Holds (MayHappen (event_for h.made)) (TellsLines (told_of h.made)) (may_happen (event_for h.made)) tells c h.between a h.ends
        (invariant.stays p h.between (ap (λ (s : Stage). s.senders) h.takes.gives) (ap (λ (s : Stage). s.text) h.takes.gives) holds)

    pub keeps_choice : ((made : A) → AreNoRaLines (told_of made)) → Keeps Holds (Chooses name IsMadeBy event_for told_of)
    keeps_choice no_ra = keeps_at Holds
        (λ p. ThenProcess (Unless (unless_runs name p.world)) (MakesChoice name IsMadeBy event_for told_of))
        (λ p. keeps_then Holds (Unless (unless_runs name p.world)) (MakesChoice name IsMadeBy event_for told_of) (keeps_unless Holds (unless_runs name p.world)) (chosen no_ra))

  -- ---- an exchange

  exchanged : (m n : Name) → Keeps Holds (Exchanges m n)
  exchanged m n None p a h holds = invariant.stays p a h.0.senders h.0.text holds
  exchanged m n (Some (Refused code)) p a h holds = invariant.stays p a h.senders h.text holds
  exchanged m n (Some WireFailed) p a h holds = absurd h
  exchanged m n (Some (Cut fault)) p a h holds = subst Holds (sym h) holds

  pub keeps_sync : (m n : Name) → Keeps Holds (SyncEnds m n)
  keeps_sync m n = keeps_at Holds (λ p. ThenProcess (Unless (unless_exchange m n p.world)) (Exchanges m n))
      (λ p. keeps_then Holds (Unless (unless_exchange m n p.world)) (Exchanges m n) (keeps_unless Holds (unless_exchange m n p.world)) (exchanged m n))
