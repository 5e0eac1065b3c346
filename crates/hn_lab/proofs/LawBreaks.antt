-- Where the wire ends a play, all could as well have been cut right before the copy that failed.
use Rattle.hn_base.proofs.Names.{◌≡◌, ◌∙◌, ◌⊎◌, ◌<◌, inl, inr, ℕ, zero, suc, Bool, true, false, List, [], ◌∷◌, ◌++◌, Option, None, Some, refl, sym, ap, subst}
use Rattle.hn_lab.proofs.Names.{Name, IoFault, Note, State, IsChoice, Decides, Line, Datagram, Sends, MailCopy, WEvent, Carried, Same, Lost, Other, Refused, WireFailed, Cut, MayHappen}
use Rattle.hn_lab.proofs.Names.{MakesChoice, Chooses, chosen_event, decided_event, EventNotes, EventEnds, Replaces, ComesTo, DeliveryEnds, injection_for, TreatmentEnds, CopyEnds, HasWaiting}
use Rattle.hn_lab.proofs.Names.{Flow, Ticks, Passes, Round, Runs, drawn, is_lost, IsKnownRoute, ResultsAreUnique, Noted, Delivered, Sets, OtherEnds, Follows, EndsAs, EndsBy, receiver}
use Rattle.hn_lab.proofs.Names.{injection}
use Rattle.hn_lab.proofs.Names.{event_of, report_of, LinesDone, Process, Nothing, Unless, ThenProcess, EachProcess, Times, Until, unless_report, IsReport, Report, MayTurn, TurnEnds, Turns}
use Rattle.hn_lab.proofs.Names.{TickEnds, Solicits, Stage, Route, Mail, OverWire, Exchanges, TellsLines, TellsSome, Reports, note_lines, ula_line}
use Rattle.hn_script.specs.declared.line.Line.TheVariants as line
use Rattle.hn_world.specs.declared.event.WEvent.TheVariants as event
use Rattle.hn_lab.specs.Breaking.{CopyFails, WireFailsAtACopy}
use Rattle.hn_play.specs.Carrying.{sent_from, Breaks}
use Rattle.hn_lab.proofs.LawAlike.{KeepsTold, apart}
use Rattle.hn_lab.proofs.LawCarry.{tells_sent}
use Rattle.hn_lab.proofs.LawEvents.{drawn_stays, noting_delivery, sole_copy, sole_ticks, sole_passes, sole_round}
use Rattle.hn_lab.proofs.LawLines.{sole_line}
use Rattle.hn_play.specs.Delivery.{IsBroken}

-- ---- processes that no wire ends

abbrev NeverBreaks : Process → Type 0
NeverBreaks P = (p a : Stage) → ¬ (P (Some WireFailed) p a)

never_then : (P R : Process) → NeverBreaks P → NeverBreaks R → NeverBreaks (ThenProcess P R)
never_then P R first second p a (inl h) = first p a h
never_then P R first second p a (inr h) = second h.0 a h.2

never_each : {A : Type 0} (each : A → Process) → ((x : A) → NeverBreaks (each x)) → (xs : List A) → NeverBreaks (EachProcess each xs)
never_each each never [] p a h = h
never_each each never (x ∷ xs) p a h = never_then (each x) (EachProcess each xs) (never x) (never_each each never xs) p a h

never_unless : (unless : Option ℕ) (R : Process) → NeverBreaks R → NeverBreaks (ThenProcess (Unless unless) R)
never_unless unless R second = never_then (Unless unless) R (λ p a h. h) second

never_event : (event : WEvent) → NeverBreaks (EventEnds event)
never_event event p a h = h.1

never_sets : (change : Stage → Stage) → NeverBreaks (Sets change)
never_sets change p a h = apart WireFailed h.0

never_reports : (unless : Option ℕ) (AreReport : List (List ℕ) → Type 0) → NeverBreaks (Reports unless AreReport)
never_reports unless AreReport = never_unless unless (TellsSome AreReport) (λ p a h. h.2)

never_noted : (event : WEvent) (name : Option Name) → NeverBreaks (Noted event name)
never_noted event name p a h = never_then (EventNotes event h.0) (TellsLines (note_lines name h.0)) (λ q b x. x) (λ q b x. x) p a h.1

never_may_happen : (event : Option WEvent) → NeverBreaks (MayHappen event)
never_may_happen None p a h = h
never_may_happen (Some event) p a h = never_event event p a h

never_choice : {A : Type 0} (name : Name) (IsMadeBy : State → A → List ℕ → Type 0) (event_for : A → Option WEvent) (told_of : A → List (List ℕ))
    → NeverBreaks (Chooses name IsMadeBy event_for told_of)
never_choice name IsMadeBy event_for told_of p =
    never_unless _ (MakesChoice name IsMadeBy event_for told_of)
    (λ q b h. never_then (MayHappen (event_for h.made)) (TellsLines (told_of h.made)) (never_may_happen (event_for h.made)) (λ r c x. x) h.between b h.ends) p

never_may_turn : (name : Name) (e : _) → NeverBreaks (MayTurn name e)
never_may_turn name e p a (inl h) = apart WireFailed h.1
never_may_turn name e p a (inr h) = h.ends

never_turns : (name : Name) → NeverBreaks (Turns name)
never_turns name p = never_each (TurnEnds name) (λ e. never_then Nothing (MayTurn name e) (λ q b h. h) (never_may_turn name e)) _ p

never_ticks : NeverBreaks Ticks
never_ticks p = never_each TickEnds (λ name. never_then (EventEnds (event.Tick name)) (Turns name) (never_event (event.Tick name)) (never_turns name)) _ p

never_follows : (event : WEvent) → NeverBreaks (Follows event)
never_follows (event.Tick name) = never_turns name
never_follows (event.Detach name e) = never_sets _
never_follows (event.Stop name) = never_sets _
never_follows (event.Start name) = never_sets _
never_follows _ = λ p a h. h

never_replaces : (copy : ℕ) (other : Option WEvent) (notes : List Note) → NeverBreaks (Replaces copy other notes)
never_replaces copy None notes p a h = h
never_replaces copy (Some other) notes p a h = never_then (EventEnds (event.Drop copy)) (EventNotes other notes) (never_event (event.Drop copy)) (λ q b x. x) p a h

never_comes : (copy : ℕ) (mail : MailCopy) (carried : Carried) (notes : List Note) → NeverBreaks (ComesTo copy mail carried notes)
never_comes copy mail Same notes p a h = h
never_comes copy mail Lost notes p a h = h
never_comes copy mail (Other bytes) notes p a h = never_replaces copy (injection_for p.world mail bytes) notes p a h

-- ---- the wire fails while bytes are carried

-- what waited on a wire that tells it, and what is left
record IsLeft (bytes : List ℕ) (before after : Route) : Type 0 where
  base : ℕ
  waiting : List Datagram
  before_is : before ≡ OverWire base (Some waiting)
  left : List Datagram
  left_is : (left ≡ waiting) ⊎ (left ≡ waiting ++ sent_from base bytes ∷ [])
  after_is : after ≡ OverWire base (Some left)

is_left : (bytes : List ℕ) (before after : Route) → IsKnownRoute before → Breaks bytes before after → IsLeft bytes before after
is_left bytes Mail after told h = absurd h
is_left bytes (OverWire base waiting) after told (waits, inl same, is) = record {
  base = base;
  waiting = told.0;
  before_is = ap (OverWire base) told.1;
  left = told.0;
  left_is = inl refl;
  after_is = is ∙ ap (OverWire base) (same ∙ told.1);
}
is_left bytes (OverWire base waiting) after told (waits, inr sends, is) = record {
  base = base;
  waiting = told.0;
  before_is = ap (OverWire base) told.1;
  left = told.0 ++ sent_from base bytes ∷ [];
  left_is = inr refl;
  after_is = is ∙ ap (OverWire base) (tells_sent (sent_from base bytes) told.0 waits (subst (λ (x : Option (List Datagram)). Sends (sent_from base bytes) x waits) told.1 sends));
}

copy_fails : (copy : ℕ) (p a : Stage) → IsKnownRoute p.route → IsBroken copy (Some WireFailed) p a → CopyFails p a
copy_fails copy p a told h =
    let l = is_left h.mail.bytes p.route h.route told h.breaks in
    record {
      base = l.base;
      waiting = l.waiting;
      route_is = l.before_is;
      copy = copy;
      mail = h.mail;
      is_copy = h.is_copy;
      left = l.left;
      left_is = l.left_is;
      after_is = h.stays ∙ ap (λ (route : Route). record p { route = route }) l.after_is;
    }

-- ---- processes that the wire may end

module _ (fault : IoFault) where
  -- the process could as well have been cut right before the copy that failed
  abbrev BreaksAtCopy : Process → Type 0
  BreaksAtCopy P = (p a : Stage) → IsKnownRoute p.route → P (Some WireFailed) p a → (at : Stage) × P (Some (Cut fault)) p at × CopyFails at a

  breaks_never : (P : Process) → NeverBreaks P → BreaksAtCopy P
  breaks_never P never p a told h = absurd (never p a h)

  breaks_then : (P R : Process) → KeepsTold P → BreaksAtCopy P → BreaksAtCopy R → BreaksAtCopy (ThenProcess P R)
  breaks_then P R keeps first second p a told (inl h) = let b = first p a told h in (b.0, inl b.1, b.2)
  breaks_then P R keeps first second p a told (inr h) = let b = second h.0 a (keeps p h.0 told h.1) h.2 in (b.0, inr (h.0, h.1, b.1), b.2)

  told_times : (HasMore : Stage → Type 0) (round : Process) → KeepsTold round → (n : ℕ) (p a : Stage) → IsKnownRoute p.route → Times HasMore round n p a → IsKnownRoute a.route
  told_times HasMore round keeps zero p a told h = subst (λ (s : Stage). IsKnownRoute s.route) (sym h) told
  told_times HasMore round keeps (suc n) p a told h = keeps h.0 a (told_times HasMore round keeps n p h.0 told h.1) h.3

  breaks_until : (HasMore : Stage → Type 0) (round : Process) → KeepsTold round → BreaksAtCopy round → BreaksAtCopy (Until HasMore round)
  breaks_until HasMore round keeps breaks p a told h =
      let b = breaks h.1 a (told_times HasMore round keeps h.0 p h.1 told h.2) h.4 in
      (b.0, (h.0, h.1, h.2, h.3, b.1), b.2)

  breaks_delivery : (copy : ℕ) (notes : List Note) → BreaksAtCopy (DeliveryEnds copy notes)
  breaks_delivery copy notes p a told (inl h) = absurd h
  breaks_delivery copy notes p a told (inr (q, unless, inl broken)) =
      (p, inl refl, copy_fails copy p a told (subst (λ (s : Stage). IsBroken copy (Some WireFailed) s a) unless.1 broken))
  breaks_delivery copy notes p a told (inr (q, unless, inr h)) =
      absurd (never_comes copy h.mail h.carried notes (record q { route = h.route }) a h.comes)

  breaks_treatment : (lost : Bool) (copy : ℕ) → BreaksAtCopy (TreatmentEnds lost copy)
  breaks_treatment true copy p a told h = absurd (never_event (event.Drop copy) p a h)
  breaks_treatment false copy p a told h = let b = breaks_delivery copy h.0 p a told h.1 in (b.0, (h.0, b.1), b.2)

  module _ (unique : ResultsAreUnique) where
    breaks_copy : BreaksAtCopy CopyEnds
    breaks_copy p a told h =
        let here = subst IsKnownRoute (sym (drawn_stays unique.steps p h.copy).0) told in
        let b = breaks_treatment (is_lost p h.copy) (suc h.place) (drawn p h.copy) a here h.ends in
        (b.0, record { place = h.place; copy = h.copy; first = h.first; is_copy = h.is_copy; ends = b.1 }, b.2)

    breaks_flow : BreaksAtCopy Flow
    breaks_flow = breaks_until HasWaiting CopyEnds (sole_copy unique.steps).keeps breaks_copy

    breaks_round : (end step : ℕ) → BreaksAtCopy (Round end step)
    breaks_round end step =
        breaks_then (Passes end step) (ThenProcess Ticks Flow) (sole_passes unique.steps unique.adverts unique.readings end step).keeps
        (breaks_never (Passes end step) (λ p a h. h.1))
        (breaks_then Ticks Flow (sole_ticks unique.steps unique.adverts unique.readings).keeps (breaks_never Ticks never_ticks) breaks_flow)

    unrefused : (code : ℕ) → Some WireFailed ≡ Some (Refused code) → ⊥
    unrefused code h = cc

    breaks_run : (end step : ℕ) → BreaksAtCopy (Runs end step)
    breaks_run end step p a told (inl h) = absurd (unrefused 10 h.1)
    breaks_run end step p a told (inr h) =
        let b = breaks_until (λ q. q.world.moment < end) (Round end step) (sole_round unique.steps unique.adverts unique.readings end step).keeps (breaks_round end step) p a told h.1 in
        (b.0, inr (h.0, b.1), b.2)

    breaks_delivered : (copy : ℕ) (name : Option Name) → BreaksAtCopy (Delivered copy name)
    breaks_delivered copy name p a told h =
        let telling = TellsLines (note_lines name h.0) in
        let b = breaks_then (DeliveryEnds copy h.0) telling ((noting_delivery unique.steps copy).keeps h.0) (breaks_delivery copy h.0)
        (breaks_never telling (λ q c x. x)) p a told h.1 in
        (b.0, (h.0, b.1), b.2)

    -- ---- each line

    breaks_other : (l : Line) → BreaksAtCopy (OtherEnds l)
    breaks_other (line.Run end step) p a told h = breaks_run end step p a told h
    breaks_other (line.Deliver copy) p a told h = breaks_delivered copy (receiver p.world copy) p a told h
    breaks_other line.Flow p a told h = breaks_flow p a told h
    breaks_other (line.Seed seed) p a told h = absurd (apart WireFailed h.0)
    breaks_other (line.Loss percent) p a told h = absurd (apart WireFailed h.0)
    breaks_other (line.Inject name endpoint how bytes) p a told h = absurd (never_noted (injection name endpoint how bytes) (Some name) p a h)
    breaks_other (line.Address name) p a told h = absurd (never_choice name IsChoice (chosen_event name) (λ made. []) p a h)
    breaks_other (line.Ula name) p a told h = absurd (never_choice name Decides (decided_event name) (λ made. ula_line name made ∷ []) p a h)
    breaks_other (line.Sync left right) p a told h = absurd (never_unless _ (Exchanges left right) (λ q b x. x) p a h)
    breaks_other (line.Radv name e) p a told h = absurd (never_unless _ (Sets _) (never_sets _) p a h)
    breaks_other (line.Solicit name e) p a told h = absurd (never_unless _ (Solicits name e) (λ q b x. apart WireFailed x.0) p a h)
    breaks_other _ p a told h = absurd h

    breaks_as : (l : Line) (report : Option Report) → BreaksAtCopy (EndsAs l report)
    breaks_as l (Some report) p a told h = absurd (never_reports (unless_report report p.world) (IsReport report p.world) p a h)
    breaks_as l None p a told h = breaks_other l p a told h

    breaks_by : (l : Line) (event : Option WEvent) → BreaksAtCopy (EndsBy l event)
    breaks_by l (Some event) = breaks_never (ThenProcess (EventEnds event) (Follows event)) (never_then (EventEnds event) (Follows event) (never_event event) (never_follows event))
    breaks_by l None = breaks_as l (report_of l)

    -- ---- lines

    told_lines : (ls : List (ℕ × Line)) (p a : Stage) → IsKnownRoute p.route → LinesDone ls p a → IsKnownRoute a.route
    told_lines [] p a told h = subst (λ (s : Stage). IsKnownRoute s.route) (sym h) told
    told_lines (l ∷ ls) p a told h = told_lines ls h.0 a ((sole_line unique l.1).keeps p h.0 told h.1) h.2

pub wire_fails_at_a_copy : ResultsAreUnique → WireFailsAtACopy
wire_fails_at_a_copy unique fault lines p a told (number, h) =
    let b = breaks_by fault unique h.line (event_of h.line) h.between a (told_lines fault unique h.front p h.between told h.done) h.said in
    (b.0, (number, record { front = h.front; line = h.line; rest = h.rest; between = h.between; lines_are = h.lines_are; done = h.done; said = inl b.1 }), b.2)
