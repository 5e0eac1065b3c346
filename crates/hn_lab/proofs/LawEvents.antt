-- An event, a delivery, a flow and a run end in one way.
use Rattle.hn_base.proofs.Names.{◌≡◌, ◌∙◌, ◌<◌, inl, inr, ℕ, suc, Bool, true, false, List, Option, None, Some, refl, sym, ap, subst, slice_get, arith, ◌||◌, ◌==◌, if◌then◌else◌, same_Some}
use Rattle.hn_lab.proofs.Names.{Name, RouterHasOneAdvert, Note, MailCopy, WEvent, is_away, running_names, refusal, StepIsUnique, Carried, Same, Lost, Other, Stop, Refused, WireFailed, Cut}
use Rattle.hn_lab.proofs.Names.{Carries}
use Rattle.hn_lab.proofs.Names.{Happens, EventNotes, EventEnds, injection_for, Replaces, ComesTo, DeliveryEnds, TreatmentEnds, CopyEnds, HasWaiting, Flow, Ticks, Passes, Round, Runs, drawn}
use Rattle.hn_lab.proofs.Names.{is_lost, IsKnownRoute, AdvertIsUnique, Unless, ThenProcess, EachProcess, Until, Turns, TickEnds, Stage, Route}
use Rattle.std.specs.Prelude.{◌+◌, min}
use Rattle.hn_world.specs.declared.event.WEvent.TheVariants as event
use Rattle.hn_play.specs.Delivery.{IsConveyed, Conveys}
use Rattle.hn_lab.proofs.LawAlike.{Grows, grows_none, grows_from, Agree, AreOne, FirstIsShort, SecondIsShort, IsCutShort, apart, IsSole, IsSoleNoting, sole_notes, sole_at, noting_at}
use Rattle.hn_lab.proofs.LawAlike.{LeavesTheText, alike_still, grows_still, sole_unless, sole_then, sole_each, then_noting}
use Rattle.hn_lab.proofs.LawCarry.{one_carriage, still_told}
use Rattle.hn_lab.proofs.LawSendings.{sole_turns}
use Rattle.hn_lab.proofs.LawUntil.{sole_until}

-- ---- an event

pub same_stage : (a b : Stage) → a.world ≡ b.world → a.loss ≡ b.loss → a.words ≡ b.words → a.route ≡ b.route → a.senders ≡ b.senders → a.text ≡ b.text → a ≡ b
same_stage a b world loss words route senders text =
    λ i. record { world = world i; loss = loss i; words = words i; route = route i; senders = senders i; text = text i }

still_event : (event : WEvent) (notes : List Note) → LeavesTheText (λ p. refusal p.world event) (EventNotes event notes)
still_event event notes = record { accepted = λ p a h. h.step.step.accepted; refused = λ code p a h. h; text = text }
  where
    text : (c : Option Stop) (p a : Stage) → EventNotes event notes c p a → a.text ≡ p.text
    text None p a h = h.text
    text (Some (Refused code)) p a h = ap (λ (s : Stage). s.text) h.1
    text (Some WireFailed) p a h = absurd h
    text (Some (Cut fault)) p a h = ap (λ (s : Stage). s.text) h

module _ (steps : StepIsUnique) where
  happens_once : (event : WEvent) (m n : List Note) (p a b : Stage) → Happens event m p a → Happens event n p b → (m ≡ n) × (a ≡ b)
  happens_once event m n p a b h k =
      let one = steps event p.words a.words b.words m n p.world a.world b.world h.step k.step in
      (one.1, same_stage a b one.0 (h.loss ∙ sym k.loss) one.2 (h.route ∙ sym k.route) (h.senders ∙ sym k.senders) (h.text ∙ sym k.text))

  pub noting_event : (event : WEvent) → IsSoleNoting (EventNotes event)
  noting_event event = record {
    one = λ m n. alike_still (λ p. refusal p.world event) (EventNotes event m) (EventNotes event n) (still_event event m) (still_event event n)
        (λ p a b h k. (happens_once event m n p a b h k).1);
    notes = λ m n p a b told h k. (happens_once event m n p a b h k).0;
    keeps = λ n p a told h. subst IsKnownRoute (sym h.route) told;
    grows = λ n. grows_still (λ p. refusal p.world event) (EventNotes event n) (still_event event n);
  }

  pub sole_event : (event : WEvent) → IsSole (EventEnds event)
  sole_event event = sole_notes (EventNotes event) (noting_event event)

  -- ---- a delivery

  noting_replaces : (copy : ℕ) (other : Option WEvent) → IsSoleNoting (Replaces copy other)
  noting_replaces copy None = record {
    one = λ m n c d p a b told h k. absurd h;
    notes = λ m n p a b told h k. absurd h;
    keeps = λ n p a told h. absurd h;
    grows = λ n c p a h. absurd h;
  }
  noting_replaces copy (Some other) = then_noting (EventEnds (event.Drop copy)) (EventNotes other) (sole_event (event.Drop copy)) (noting_event other)

  noting_comes : (copy : ℕ) (mail : MailCopy) (carried : Carried) → IsSoleNoting (ComesTo copy mail carried)
  noting_comes copy mail Same = noting_event (event.Deliver copy)
  noting_comes copy mail Lost = noting_event (event.Drop copy)
  noting_comes copy mail (Other bytes) =
      noting_at (λ p. Replaces copy (injection_for p.world mail bytes)) (λ p. noting_replaces copy (injection_for p.world mail bytes))

  -- what a copy is carried to is one thing, and so the other comes to its end from there
  same_way : (copy : ℕ) (m n : List Note) (c d : Option Stop) (p a b : Stage) → IsKnownRoute p.route → (h : IsConveyed copy m c p a) (k : IsConveyed copy n d p b)
      → ComesTo copy h.mail h.carried n d (record p { route = h.route }) b
  same_way copy m n c d p a b told h k =
      let mail : k.mail ≡ h.mail = same_Some k.mail h.mail (sym k.is_copy ∙ h.is_copy) in
      let carries = subst (λ (x : MailCopy). Carries x.bytes k.carried p.route k.route) mail k.carries in
      let one = one_carriage h.mail.bytes p.route k.route h.route k.carried h.carried told carries h.carries in
      subst (λ (x : MailCopy). ComesTo copy x h.carried n d (record p { route = h.route }) b) mail
      (subst (λ (x : Carried). ComesTo copy k.mail x n d (record p { route = h.route }) b) one.0
      (subst (λ (r : Route). ComesTo copy k.mail k.carried n d (record p { route = r }) b) one.1 k.comes))

  -- afterwards what copies come to is still known
  told_after : (copy : ℕ) (n : List Note) (c : Option Stop) (p a : Stage) → IsKnownRoute p.route → (h : IsConveyed copy n c p a) → IsKnownRoute h.route
  told_after copy n c p a told h = still_told h.mail.bytes p.route h.route h.carried told h.carries

  noting_conveys : (copy : ℕ) → IsSoleNoting (Conveys copy)
  noting_conveys copy = record { one = one; notes = notes; keeps = keeps; grows = grows }
    where
      grows : (n : List Note) (c : Option Stop) (p a : Stage) → Conveys copy n c p a → Grows p a
      grows n c p a (inl h) = grows_none p a (ap (λ (s : Stage). s.text) h.stays)
      grows n c p a (inr h) = (noting_comes copy h.mail h.carried).grows n c (record p { route = h.route }) a h.comes

      one : (m n : List Note) (c d : Option Stop) (p a b : Stage) → IsKnownRoute p.route → Conveys copy m c p a → Conveys copy n d p b → Agree c d a b
      one m n c d p a b told (inl h) k = FirstIsShort (subst IsCutShort (sym h.stop_is) tt) (grows_from p a b (ap (λ (s : Stage). s.text) h.stays) (grows n d p b k))
      one m n c d p a b told (inr h) (inl k) = SecondIsShort (subst IsCutShort (sym k.stop_is) tt) (grows_from p b a (ap (λ (s : Stage). s.text) k.stays) (grows m c p a (inr h)))
      one m n c d p a b told (inr h) (inr k) =
          (noting_comes copy h.mail h.carried).one m n c d (record p { route = h.route }) a b (told_after copy m c p a told h) h.comes (same_way copy m n c d p a b told h k)

      notes : (m n : List Note) (p a b : Stage) → IsKnownRoute p.route → Conveys copy m None p a → Conveys copy n None p b → m ≡ n
      notes m n p a b told (inl h) k = absurd (apart _ (sym h.stop_is))
      notes m n p a b told (inr h) (inl k) = absurd (apart _ (sym k.stop_is))
      notes m n p a b told (inr h) (inr k) =
          (noting_comes copy h.mail h.carried).notes m n (record p { route = h.route }) a b (told_after copy m None p a told h) h.comes (same_way copy m n None None p a b told h k)

      keeps : (n : List Note) (p a : Stage) → IsKnownRoute p.route → Conveys copy n None p a → IsKnownRoute a.route
      keeps n p a told (inl h) = absurd (apart _ (sym h.stop_is))
      keeps n p a told (inr h) = (noting_comes copy h.mail h.carried).keeps n (record p { route = h.route }) a (told_after copy n None p a told h) h.comes

  pub noting_delivery : (copy : ℕ) → IsSoleNoting (DeliveryEnds copy)
  noting_delivery copy = noting_at
      (λ p notes. ThenProcess (Unless (refusal p.world (event.Deliver copy))) (Conveys copy notes))
      (λ p. then_noting (Unless (refusal p.world (event.Deliver copy))) (Conveys copy) (sole_unless (refusal p.world (event.Deliver copy))) (noting_conveys copy))

  -- ---- the mail flows

  sole_treatment : (lost : Bool) (copy : ℕ) → IsSole (TreatmentEnds lost copy)
  sole_treatment true copy = sole_event (event.Drop copy)
  sole_treatment false copy = sole_notes (DeliveryEnds copy) (noting_delivery copy)

  -- a word is drawn: the route and the text stay
  pub drawn_stays : (p : Stage) (c : MailCopy) → ((drawn p c).route ≡ p.route) × ((drawn p c).text ≡ p.text)
  drawn_stays p c = by_test (is_away p.world c || p.loss == 0)
    where
      by_test : (b : Bool) → ((if b then p else record p { words = λ place. p.words (suc place) }).route ≡ p.route)
          × ((if b then p else record p { words = λ place. p.words (suc place) }).text ≡ p.text)
      by_test true = (refl, refl)
      by_test false = (refl, refl)

  pub sole_copy : IsSole CopyEnds
  sole_copy = record { one = one; keeps = keeps; grows = grows }
    where
      keeps : (p a : Stage) → IsKnownRoute p.route → CopyEnds None p a → IsKnownRoute a.route
      keeps p a told h = (sole_treatment (is_lost p h.copy) (suc h.place)).keeps (drawn p h.copy) a (subst IsKnownRoute (sym (drawn_stays p h.copy).0) told) h.ends

      grows : (c : Option Stop) (p a : Stage) → CopyEnds c p a → Grows p a
      grows c p a h = grows_from (drawn p h.copy) p a (sym (drawn_stays p h.copy).1) ((sole_treatment (is_lost p h.copy) (suc h.place)).grows c (drawn p h.copy) a h.ends)

      one : (c d : Option Stop) (p a b : Stage) → IsKnownRoute p.route → CopyEnds c p a → CopyEnds d p b → Agree c d a b
      one c d p a b told h k =
          let place : k.place ≡ h.place = same_Some k.place h.place (sym k.first ∙ h.first) in
          let there : slice_get p.world.copies h.place ≡ Some k.copy = subst (λ (at : ℕ). slice_get p.world.copies at ≡ Some k.copy) place k.is_copy in
          let copy : k.copy ≡ h.copy = same_Some k.copy h.copy (sym there ∙ h.is_copy) in
          let ends : TreatmentEnds (is_lost p h.copy) (suc h.place) d (drawn p h.copy) b =
          subst (λ (x : MailCopy). TreatmentEnds (is_lost p x) (suc h.place) d (drawn p x) b) copy
          (subst (λ (at : ℕ). TreatmentEnds (is_lost p k.copy) (suc at) d (drawn p k.copy) b) place k.ends) in
          (sole_treatment (is_lost p h.copy) (suc h.place)).one c d (drawn p h.copy) a b (subst IsKnownRoute (sym (drawn_stays p h.copy).0) told) h.ends ends

  pub sole_flow : IsSole Flow
  sole_flow = sole_until HasWaiting CopyEnds sole_copy

-- ---- a run

module _ (steps : StepIsUnique) (adverts : RouterHasOneAdvert) (readings : AdvertIsUnique) where
  sole_tick : (name : Name) → IsSole (TickEnds name)
  sole_tick name = sole_then (EventEnds (event.Tick name)) (Turns name) (sole_event steps (event.Tick name)) (sole_turns adverts readings name)

  pub sole_ticks : IsSole Ticks
  sole_ticks = sole_at (λ p. EachProcess TickEnds (running_names p.world)) (λ p. sole_each TickEnds sole_tick (running_names p.world))

  pub sole_passes : (end step : ℕ) → IsSole (Passes end step)
  sole_passes end step = sole_at (λ p. EventEnds (event.Time (min (p.world.moment + step) end))) (λ p. sole_event steps (event.Time (min (p.world.moment + step) end)))

  pub sole_round : (end step : ℕ) → IsSole (Round end step)
  sole_round end step = sole_then (Passes end step) (ThenProcess Ticks Flow) (sole_passes end step) (sole_then Ticks Flow sole_ticks (sole_flow steps))

  sole_rounds : (end step : ℕ) → IsSole (Until (λ p. p.world.moment < end) (Round end step))
  sole_rounds end step = sole_until (λ p. p.world.moment < end) (Round end step) (sole_round end step)

  pub sole_run : (end step : ℕ) → IsSole (Runs end step)
  sole_run end step = record { one = one; keeps = keeps; grows = grows }
    where
      one : (c d : Option Stop) (p a b : Stage) → IsKnownRoute p.route → Runs end step c p a → Runs end step d p b → Agree c d a b
      one c d p a b told (inl h) (inl k) = AreOne (h.1 ∙ sym k.1) (h.2 ∙ sym k.2)
      one c d p a b told (inl h) (inr k) = let early = h.0 in let late = k.0 in absurd (omega arith)
      one c d p a b told (inr h) (inl k) = let early = k.0 in let late = h.0 in absurd (omega arith)
      one c d p a b told (inr h) (inr k) = (sole_rounds end step).one c d p a b told h.1 k.1

      keeps : (p a : Stage) → IsKnownRoute p.route → Runs end step None p a → IsKnownRoute a.route
      keeps p a told (inl h) = absurd (apart _ (sym h.1))
      keeps p a told (inr h) = (sole_rounds end step).keeps p a told h.1

      grows : (c : Option Stop) (p a : Stage) → Runs end step c p a → Grows p a
      grows c p a (inl h) = grows_none p a (ap (λ (s : Stage). s.text) h.2)
      grows c p a (inr h) = (sole_rounds end step).grows c p a h.1
