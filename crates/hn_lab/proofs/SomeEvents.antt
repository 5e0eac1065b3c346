-- Events end, and deliveries by mail.
use Rattle.hn_base.proofs.Names.{◌≡◌, ◌∙◌, ◌+◌, ◌<◌, ◌≤◌, ℕ, suc, Bool, true, false, cond, List, [], ◌∷◌, ◌++◌, length, length-append, slice_get, Option, None, Some, refl, sym, ap, subst, inl, inr}
use Rattle.hn_base.proofs.Names.{arith, ◌==◌, ◌||◌, same_Some, Some!, Begins, Took}
use Rattle.hn_lab.proofs.Names.{Version, some_then, Note, MailCopy, Traced, WEvent, Parts, IsOfBytesAt, WorldHasItsTrace, WorldHasItsVersion, is_away, refusal, Goes, IsReplayed, routed}
use Rattle.hn_lab.proofs.Names.{FitsAt}
use Rattle.hn_lab.proofs.Names.{IsWorldEventInRange, Step, first_waiting, Same, Carries, EventNotes, EventEnds, DeliveryEnds, CopyEnds, Flow, HasWaiting, TreatmentEnds, drawn, is_lost}
use Rattle.hn_lab.proofs.Names.{ComesToAnEnd, GoesOn, IsFit, IsOn, stop_by, Process, Stage, Route, Mail}
use Rattle.hn_base.proofs.FirstWords.{begins_both}
use Rattle.hn_world.specs.declared.event.WEvent.TheVariants as event
use Rattle.hn_world.specs.Existing.{HasAStep, Outcome, ReplayedStepExists}
use Rattle.hn_world.specs.Laws.{EachEventIsEntered}
use Rattle.hn_world.specs.Replay.{empty_world, Replays}
use Rattle.hn_play.proofs.RunCopies.{some_copy}
use Rattle.hn_play.proofs.RunDeliveries.{delivered_copy}
use Rattle.hn_play.proofs.RunEvents.{one_more}
use Rattle.hn_lab.proofs.SomeEnds.{ends_until}

-- the laws on which it rests
pub record EventLaws : Type 0 where
  pub steps : ReplayedStepExists
  pub enters : EachEventIsEntered
  pub room : (t : Traced) (notes : List Note) (before after : Parts) → Step t notes before after → length before.trace < 1000000
  pub trace : WorldHasItsTrace
  pub version : WorldHasItsVersion

-- ---- a world stays the replay of its trace

pub goes_more : (before between after : Parts) (ts : List Traced) (t : Traced) → Goes before ts between → (notes : List Note) × Step t notes between after → Goes before (ts ++ t ∷ []) after
goes_more before between after [] t is step = (after, subst (λ (w : Parts). (notes : List Note) × Step t notes w after) is step, refl)
goes_more before between after (u ∷ ts) t h step = (h.0, h.1, goes_more h.0 between after ts t h.2 step)

pub replays_step : (version : Version) (ts : List Traced) (t : Traced) (before after : Parts) → Replays version ts before → (notes : List Note) × Step t notes before after
    → Replays version (ts ++ t ∷ []) after
unfolding Replays
replays_step version ts t before after h step = goes_more (empty_world version) before after ts t h step

module _ (laws : EventLaws) where
  replayed_then : (t : Traced) (before after : Parts) → IsReplayed before → (notes : List Note) × Step t notes before after → IsReplayed after
  replayed_then t before after h step =
      let then = replays_step before.version before.trace t before after h step in
      let trace = laws.trace before.version (before.trace ++ t ∷ []) after then in
      let version = laws.version before.version (before.trace ++ t ∷ []) after then in
      subst (λ (v : Version). Replays v after.trace after) (sym version) (subst (λ (ts : List Traced). Replays before.version ts after) (sym trace) then)

  -- with no more events than there is room for
  pub goes_on : (ts : List Traced) (before after : Parts) → IsReplayed before → length before.trace ≤ 1000000 → Goes before ts after
      → IsReplayed after × (length after.trace ≤ 1000000) × (length before.trace ≤ length after.trace)
  goes_on [] before after h room goes =
      subst (λ (w : Parts). IsReplayed w × (length w.trace ≤ 1000000) × (length before.trace ≤ length w.trace)) (sym goes) (h, room, omega arith)
  goes_on (t ∷ ts) before after h room (then, (notes, step), rest) =
      let longer = one_more t before.trace then.trace (laws.enters t notes before then step) in
      let less = laws.room t notes before then step in
      let on = goes_on ts then after (replayed_then t before then h (notes, step)) (omega (arith, longer, less)) rest in
      let grew = on.2 in
      (on.0, on.1, omega (arith, longer, grew))

-- ---- the words of a stream

-- what is told after words that were taken
abbrev pub rest_of : (ℕ → ℕ) → List ℕ → ℕ → ℕ
rest_of f words place = f (length words + place)

-- a draw that tells the stream moves by its first words
pub took_first : (words : List ℕ) (f : ℕ → ℕ) → Begins words f → Took (Some f) words (Some (rest_of f words))
took_first words f begins before stream at =
    let told : f ≡ (λ place. stream (length before + place)) = same_Some f (λ place. stream (length before + place)) at.rest in
    record {
      begins = begins_both before words stream at.begins (λ i within. begins i within ∙ ap (λ (g : ℕ → ℕ). g i) told);
      rest = ap (λ (g : ℕ → ℕ). Some (λ (place : ℕ). g (length words + place))) told ∙ ap Some (λ i place. stream (further before words place i));
    }
  where
    further : (xs ys : List ℕ) (place : ℕ) → length xs + (length ys + place) ≡ length (xs ++ ys) + place
    further xs ys place = omega (arith, length-append xs ys)

-- ---- an event, with what routers note

-- how a process ends of which something is noted
pub record NotedEnding : Type 0 where
  pub notes : List Note
  pub code : Option ℕ
  pub stage : Stage

abbrev pub EndsNoted : ℕ → (List Note → Process) → Stage → Type 0
EndsNoted more process p = Some! (λ (e : NotedEnding). process e.notes (stop_by e.code) p e.stage × GoesOn more e.code p e.stage)

-- where a process enters events, it enters none or more
pub weaker : (p : Stage) (process : Process) → ComesToAnEnd 1 process p → ComesToAnEnd 0 process p
weaker p process ends = some_then ends (λ e h none. none e (h.0, by_code e.code e.stage h.1))
  where
    by_code : (code : Option ℕ) (a : Stage) → GoesOn 1 code p a → GoesOn 0 code p a
    by_code None a on = let grows = on.grows in record { fit = on.fit; grows = omega (arith, grows) }
    by_code (Some code) a on = tt

-- whatever is noted
pub ends_whatever : (more : ℕ) (process : List Note → Process) (p : Stage) → EndsNoted more process p → ComesToAnEnd more (λ stop b a. (notes : List Note) × process notes stop b a) p
ends_whatever more process p ends = some_then ends (λ e h none. none (record { code = e.code; stage = e.stage }) ((e.notes, h.0), h.1))

module _ (laws : EventLaws) where
  -- the stage after an event that led there
  abbrev after_event : Stage → Outcome → Stage
  after_event p o = record p { world = o.world; words = rest_of p.words o.words }

  fit_after : (event : WEvent) (p : Stage) (o : Outcome) → IsFit p → Step (record { event = event; words = o.words }) o.notes p.world o.world → IsOn 1 p (after_event p o)
  fit_after event p o fit step =
      let t : Traced = record { event = event; words = o.words } in
      let longer = one_more t p.world.trace o.world.trace (laws.enters t o.notes p.world o.world step) in
      let less = laws.room t o.notes p.world o.world step in
      record {
        fit = record {
          mail = fit.mail;
          replayed = replayed_then laws t p.world o.world fit.replayed (o.notes, step);
          room = omega (arith, longer, less);
          words = λ place. fit.words (length o.words + place);
        };
        grows = omega (arith, longer);
      }

  happened : (event : WEvent) (p : Stage) → IsFit p → HasAStep event p.world → EndsNoted 1 (EventNotes event) p
  unfolding HasAStep
  happened event p fit exists = some_then (exists p.words) (λ o h none.
      none (record { notes = o.notes; code = None; stage = after_event p o }) (
        record {
          step = record { words = o.words; step = h.0; drew = took_first o.words p.words h.1 };
          loss = refl;
          route = refl;
          senders = refl;
          text = refl;
        },
        fit_after event p o fit h.0,
      ))

  pub ends_event : (event : WEvent) (p : Stage) → IsFit p → IsWorldEventInRange event → FitsAt (routed event) → IsOfBytesAt (routed event) → EndsNoted 1 (EventNotes event) p
  ends_event event p fit in_range fits bytes = by_refusal (refusal p.world event) refl
    where
      by_refusal : (r : Option ℕ) → refusal p.world event ≡ r → EndsNoted 1 (EventNotes event) p
      by_refusal (Some code) is = λ none. none (record { notes = []; code = Some code; stage = p }) ((is, refl), tt)
      by_refusal None is = happened event p fit (laws.steps event p.world fit.replayed is in_range fits bytes)

  pub ends_event_whatever : (event : WEvent) (p : Stage) → IsFit p → IsWorldEventInRange event → FitsAt (routed event) → IsOfBytesAt (routed event) → ComesToAnEnd 1 (EventEnds event) p
  ends_event_whatever event p fit in_range fits bytes = ends_whatever 1 (EventNotes event) p (ends_event event p fit in_range fits bytes)

  -- ---- a delivery

  -- by mail it is the event
  by_mail : (copy : ℕ) (notes : List Note) (p a : Stage) → p.route ≡ Mail → EventNotes (event.Deliver copy) notes None p a → DeliveryEnds copy notes None p a
  by_mail copy notes p a mail happens =
      let accepted = happens.step.step.accepted in
      let c = delivered_copy p.world copy accepted in
      let carries : Carries c.0.bytes Same p.route p.route = subst (λ (route : Route). Carries c.0.bytes Same route route) (sym mail) (refl, refl) in
      (p, (accepted, refl), inr (record { mail = c.0; is_copy = c.1; carried = Same; route = p.route; carries = carries; comes = happens }))

  pub ends_delivery : (copy : ℕ) (p : Stage) → IsFit p → EndsNoted 1 (DeliveryEnds copy) p
  ends_delivery copy p fit = some_then (ends_event (event.Deliver copy) p fit tt tt tt) (λ e h. by_code e.notes e.code e.stage h.0 h.1)
    where
      by_code : (notes : List Note) (code : Option ℕ) (a : Stage) → EventNotes (event.Deliver copy) notes (stop_by code) p a → GoesOn 1 code p a → EndsNoted 1 (DeliveryEnds copy) p
      by_code notes None a ended goes = λ none. none (record { notes = notes; code = None; stage = a }) (by_mail copy notes p a fit.mail ended, goes)
      by_code notes (Some code) a ended goes = λ none. none (record { notes = notes; code = Some code; stage = a }) (inl ended, tt)

  -- ---- the first copy that waits is treated

  ends_treatment : (lost : Bool) (copy : ℕ) (p : Stage) → IsFit p → ComesToAnEnd 1 (TreatmentEnds lost copy) p
  ends_treatment true copy p fit = ends_event_whatever (event.Drop copy) p fit tt tt tt
  ends_treatment false copy p fit = ends_whatever 1 (DeliveryEnds copy) p (ends_delivery copy p fit)

  drawn_on : (p : Stage) (c : MailCopy) → IsFit p → IsOn 0 p (drawn p c)
  drawn_on p c fit = by_test (is_away p.world c || p.loss == 0)
    where
      by_test : (b : Bool) → IsOn 0 p (cond b p (record p { words = λ place. p.words (suc place) }))
      by_test true = record { fit = fit; grows = omega arith }
      by_test false = record {
        fit = record { mail = fit.mail; replayed = fit.replayed; room = fit.room; words = λ place. fit.words (suc place) };
        grows = omega arith;
      }

  pub ends_copy : (p : Stage) → IsFit p → HasWaiting p → ComesToAnEnd 1 CopyEnds p
  ends_copy p fit waits = by_first (first_waiting p.world.copies) refl
    where
      of_copy : (place : ℕ) (c : MailCopy) → first_waiting p.world.copies ≡ Some place → slice_get p.world.copies place ≡ Some c → ComesToAnEnd 1 CopyEnds p
      of_copy place c first is = some_then (ends_treatment (is_lost p c) (suc place) (drawn p c) (drawn_on p c fit).fit) (λ e h none.
          none e (record { place = place; copy = c; first = first; is_copy = is; ends = h.0 }, from_drawn e.code e.stage h.1))
        where
          from_drawn : (code : Option ℕ) (a : Stage) → GoesOn 1 code (drawn p c) a → GoesOn 1 code p a
          from_drawn None a on =
              let before = (drawn_on p c fit).grows in
              let after = on.grows in
              record { fit = on.fit; grows = omega (arith, before, after) }
          from_drawn (Some code) a on = tt

      by_first : (o : Option ℕ) → first_waiting p.world.copies ≡ o → ComesToAnEnd 1 CopyEnds p
      by_first None is = absurd (waits is)
      by_first (Some place) is = let c = some_copy p.world.copies place is in of_copy place c.0 is c.1

  pub ends_flow : (p : Stage) → IsFit p → ComesToAnEnd 0 Flow p
  ends_flow p fit = ends_until HasWaiting CopyEnds p ends_copy fit
