-- Deliveries one after another, and the exchange that they are part of.
use Rattle.hn_base.proofs.Names.{◌≡◌, ◌∙◌, ◌<◌, ◌≤◌, ◌+◌, ℕ, suc, Bool, cond, List, [], ◌∷◌, ◌++◌, length, Option, Some, None, sym, ap, subst, refl, append_assoc, arith, le-leb, lt-leb, append-nil}
use Rattle.hn_base.proofs.Names.{length_push, IsAt, Took}
use Rattle.hn_sync.proofs.Names.{Name, WordsJoin, Note, Traced, WEvent, Parts, EachEventIsEntered, refusal, Goes, words_of_trace, Step, IsStep, IsQuestion, AreDeliveries, CopiesAreDelivered, delivery}
use Rattle.hn_sync.proofs.Names.{ExchangesSoFar}
use Rattle.hn_world.specs.declared.event.WEvent.TheVariants as event
use Rattle.hn_sync.specs.Exchange.{IsBegunExchange, ExchangeStopsAt, IsCutOff}
use Rattle.hn_sync.specs.Laws.{ExchangeIsEntered}

-- ---- the trace

pub goes_enters : EachEventIsEntered → (before after : Parts) (ts : List Traced) → Goes before ts after → after.trace ≡ before.trace ++ ts
goes_enters enters before after [] is = ap (λ (w : Parts). w.trace) is ∙ sym (append-nil before.trace)
goes_enters enters before after (t ∷ ts) h =
    goes_enters enters h.0 after ts h.2 ∙ ap (λ (us : List Traced). us ++ ts) (enters t h.1.0 before h.0 h.1.1) ∙ append_assoc before.trace (t ∷ []) ts

pub exchange_enters : EachEventIsEntered → ExchangeIsEntered
exchange_enters enters a b ts next before after h = goes_enters enters before after ts h.goes

-- ---- one more delivery

pub goes_more : (before between after : Parts) (ts : List Traced) (t : Traced) → Goes before ts between → (notes : List Note) × Step t notes between after → Goes before (ts ++ t ∷ []) after
goes_more before between after [] t is step = (after, subst (λ (w : Parts). (notes : List Note) × Step t notes w after) is step, refl)
goes_more before between after (u ∷ ts) t h step = (h.0, h.1, goes_more h.0 between after ts t h.2 step)

deliveries_more : (copy : ℕ) (ts : List Traced) (t : Traced) → AreDeliveries copy ts → t.event ≡ event.Deliver (copy + length ts) → AreDeliveries copy (ts ++ t ∷ [])
deliveries_more copy [] t are is =
    let at : copy + 0 ≡ copy = omega arith in
    (is ∙ ap event.Deliver at, tt)
deliveries_more copy (u ∷ ts) t are is =
    let at : copy + length (u ∷ ts) ≡ suc copy + length ts = omega arith in
    (are.0, deliveries_more (suc copy) ts t are.1 (is ∙ ap event.Deliver at))

words_more : (ts : List Traced) (t : Traced) → words_of_trace ts ++ t.words ≡ words_of_trace (ts ++ t ∷ [])
words_more [] t = sym (append-nil t.words)
words_more (u ∷ ts) t = append_assoc u.words (words_of_trace ts) t.words ∙ ap (λ (ws : List ℕ). u.words ++ ws) (words_more ts t)

pub took_none : (told : Option (ℕ → ℕ)) → Took told [] told
took_none told before stream at = subst (IsAt told stream) (sym (append-nil before)) at

-- the copies after so many were delivered, up to this number
pub record Came (copies delivered : ℕ) (told told_after : Option (ℕ → ℕ)) (before after : Parts) : Type 0 where
  pub ts : List Traced
  pub at : delivered ≡ copies + length ts
  pub goes : Goes before ts after
  pub events : AreDeliveries (copies + 1) ts
  pub drew : Took told (words_of_trace ts) told_after

pub came_none : (copies : ℕ) (told : Option (ℕ → ℕ)) (w : Parts) → Came copies copies told told w w
came_none copies told w = record { ts = []; at = omega arith; goes = refl; events = tt; drew = took_none told }

pub came_more : WordsJoin → (copies delivered : ℕ) (told between told_after : Option (ℕ → ℕ)) (before then after : Parts) (notes : List Note)
    → Came copies delivered told between before then → IsStep (event.Deliver (delivered + 1)) notes between told_after then after → Came copies (delivered + 1) told told_after before after
came_more join copies delivered told between told_after before then after notes h step =
    let t : Traced = record { event = event.Deliver (delivered + 1); words = step.words } in
    let count = h.at in
    let at : delivered + 1 ≡ copies + 1 + length h.ts = omega arith in
    record {
      ts = h.ts ++ t ∷ [];
      at = count_more h.ts t count;
      goes = goes_more before then after h.ts t h.goes (notes, step.step);
      events = deliveries_more (copies + 1) h.ts t h.events (ap event.Deliver at);
      drew = subst (λ (ws : List ℕ). Took told ws told_after) (words_more h.ts t) (join told between told_after (words_of_trace h.ts) step.words h.drew step.drew);
    }
  where
    count_more : (ts : List Traced) (t : Traced) → delivered ≡ copies + length ts → delivered + 1 ≡ copies + length (ts ++ t ∷ [])
    count_more ts t is = omega (arith, length_push ts t)

-- ---- what comes next

pub no_delivery : (copy : ℕ) (w : Parts) → length w.copies < copy → delivery copy w ≡ None
no_delivery copy w past = ap (λ (b : Bool). cond b (Some (event.Deliver copy)) None) (lt-leb copy (length w.copies) past)

pub one_delivery : (copy : ℕ) (w : Parts) → copy ≤ length w.copies → delivery copy w ≡ Some (event.Deliver copy)
one_delivery copy w there = ap (λ (b : Bool). cond b (Some (event.Deliver copy)) None) (le-leb copy (length w.copies) there)

module _ (copies delivered : ℕ) (told told_after : Option (ℕ → ℕ)) (before after : Parts) (h : Came copies delivered told told_after before after) where
  pub came_all : length after.copies ≤ delivered → (ts : List Traced) × CopiesAreDelivered (copies + 1) ts None before after × Took told (words_of_trace ts) told_after
  came_all all =
      let at = h.at in
      (h.ts, record { goes = h.goes; events = h.events; is_next = sym (no_delivery (copies + 1 + length h.ts) after (omega arith)) }, h.drew)

  came_next : delivered < length after.copies → CopiesAreDelivered (copies + 1) h.ts (Some (event.Deliver (delivered + 1))) before after
  came_next more =
      let at = h.at in
      let copy : delivered + 1 ≡ copies + 1 + length h.ts = omega arith in
      record { goes = h.goes; events = h.events; is_next = ap (λ (n : ℕ). Some (event.Deliver n)) copy ∙ sym (one_delivery (copies + 1 + length h.ts) after (omega arith)) }

  pub came_refused : (code : ℕ) → delivered < length after.copies → refusal after (event.Deliver (delivered + 1)) ≡ Some code
      → (ts : List Traced) × (next : WEvent) × CopiesAreDelivered (copies + 1) ts (Some next) before after × (refusal after next ≡ Some code) × Took told (words_of_trace ts) told_after
  came_refused code more is = (h.ts, event.Deliver (delivered + 1), came_next more, is, h.drew)

  pub came_cut : delivered < length after.copies → (ts : List Traced) × (next : WEvent) × CopiesAreDelivered (copies + 1) ts (Some next) before after
  came_cut more = (h.ts, event.Deliver (delivered + 1), came_next more)

-- where the next delivery failed, the world is as before it
module _ (copies delivered : ℕ) (told told_after : Option (ℕ → ℕ)) (before after end : Parts) (same : end ≡ after)
    (h : Came copies delivered told told_after before after) (more : delivered < length after.copies) where
  pub refused_then : (told_end : Option (ℕ → ℕ)) → told_end ≡ told_after → (code : ℕ) → refusal after (event.Deliver (delivered + 1)) ≡ Some code
      → (ts : List Traced) × (next : WEvent) × CopiesAreDelivered (copies + 1) ts (Some next) before end × (refusal end next ≡ Some code) × Took told (words_of_trace ts) told_end
  refused_then told_end undrawn code is =
      let then = came_refused copies delivered told told_after before after h code more is in
      subst (λ (w : Parts). (ts : List Traced) × (next : WEvent) × CopiesAreDelivered (copies + 1) ts (Some next) before w × (refusal w next ≡ Some code)
      × Took told (words_of_trace ts) told_end) (sym same)
      (then.0, then.1, then.2, then.3, subst (λ (o : Option (ℕ → ℕ)). Took told (words_of_trace then.0) o) (sym undrawn) then.4)

  pub cut_then : (ts : List Traced) × (next : WEvent) × CopiesAreDelivered (copies + 1) ts (Some next) before end
  cut_then =
      let then = came_cut copies delivered told told_after before after h more in
      (then.0, then.1, subst (λ (w : Parts). CopiesAreDelivered (copies + 1) then.0 (Some then.1) before w) (sym same) then.2)

-- ---- an exchange

module _ (a b : Name) (before : Parts) (question : WEvent) (asks : IsQuestion a b before question) where
  pub begun_none : IsBegunExchange a b [] (Some question) before before
  begun_none = record { question = question; asks = asks; goes = refl; events = tt; is_next = refl }

  pub stops_first : (code : ℕ) (told : Option (ℕ → ℕ)) → refusal before question ≡ Some code → ExchangeStopsAt a b code told told before before
  stops_first code told is = record { next = question; comes = record { ts = []; begun = begun_none; drew = took_none told }; refused = is }

  pub cut_first : IsCutOff a b before before
  cut_first = record { ts = []; next = question; begun = begun_none }

  -- the question, and then deliveries
  module _ (words : List ℕ) (notes : List Note) (then : Parts) (step : Step (record { event = question; words = words }) notes before then) where
    abbrev asking : Traced
    asking = record { event = question; words = words }

    begun_more : (ts : List Traced) (next : Option WEvent) (after : Parts) → CopiesAreDelivered (length before.copies + 1) ts next then after → IsBegunExchange a b (asking ∷ ts) next before after
    begun_more ts next after h =
        let first : length before.copies + 1 ≡ suc (length before.copies) = omega arith in
        let number : length before.copies + 1 + length ts ≡ length before.copies + suc (length ts) = omega arith in
        record {
          question = question;
          asks = asks;
          goes = (then, (notes, step), h.goes);
          events = (refl, subst (λ (n : ℕ). AreDeliveries n ts) first h.events);
          is_next = h.is_next ∙ ap (λ (n : ℕ). delivery n after) number;
        }

    pub exchanges_more : WordsJoin → (told between told_after : Option (ℕ → ℕ)) (ts : List Traced) (next : Option WEvent) (after : Parts) → Took told words between
        → CopiesAreDelivered (length before.copies + 1) ts next then after → Took between (words_of_trace ts) told_after → ExchangesSoFar a b next told told_after before after
    exchanges_more join told between told_after ts next after first h rest =
        record { ts = asking ∷ ts; begun = begun_more ts next after h; drew = join told between told_after words (words_of_trace ts) first rest }

    pub cut_more : (ts : List Traced) (next : WEvent) (after : Parts) → CopiesAreDelivered (length before.copies + 1) ts (Some next) then after → IsCutOff a b before after
    cut_more ts next after h = record { ts = asking ∷ ts; next = next; begun = begun_more ts (Some next) after h }

-- ---- the call

-- where the question was not accepted, the world is as before it
module _ (a b : Name) (before end : Parts) (same : end ≡ before) (question : WEvent) (asks : IsQuestion a b before question) where
  pub stops_before : (code : ℕ) (told told_end : Option (ℕ → ℕ)) → told_end ≡ told → refusal before question ≡ Some code → ExchangeStopsAt a b code told told_end before end
  stops_before code told told_end undrawn is =
      subst (λ (w : Parts). ExchangeStopsAt a b code told told_end before w) (sym same)
      (subst (λ (o : Option (ℕ → ℕ)). ExchangeStopsAt a b code told o before before) (sym undrawn) (stops_first a b before question asks code told is))

  pub cut_before : IsCutOff a b before end
  cut_before = subst (λ (w : Parts). IsCutOff a b before w) (sym same) (cut_first a b before question asks)

-- the deliveries after the question
module _ (join : WordsJoin) (a b : Name) (copies : ℕ) (told between told_after : Option (ℕ → ℕ)) (notes : List Note) (question : WEvent) (before then after : Parts)
    (is : copies ≡ length before.copies) (asks : IsQuestion a b before question) (step : IsStep question notes told between before then) where
  so_many : (ts : List Traced) (next : Option WEvent) → CopiesAreDelivered (copies + 1) ts next then after → CopiesAreDelivered (length before.copies + 1) ts next then after
  so_many ts next h = subst (λ (n : ℕ). CopiesAreDelivered (n + 1) ts next then after) is h

  pub whole_after : (ts : List Traced) × CopiesAreDelivered (copies + 1) ts None then after × Took between (words_of_trace ts) told_after → ExchangesSoFar a b None told told_after before after
  whole_after h =
      exchanges_more a b before question asks step.words notes then step.step join told between told_after h.0 None after step.drew (so_many h.0 None h.1) h.2

  pub stops_after : (code : ℕ)
      → (ts : List Traced) × (next : WEvent) × CopiesAreDelivered (copies + 1) ts (Some next) then after × (refusal after next ≡ Some code) × Took between (words_of_trace ts) told_after
      → ExchangeStopsAt a b code told told_after before after
  stops_after code h = record {
    next = h.1;
    comes = exchanges_more a b before question asks step.words notes then step.step join told between told_after h.0 (Some h.1) after step.drew (so_many h.0 (Some h.1) h.2) h.4;
    refused = h.3;
  }

  pub cut_after : (ts : List Traced) × (next : WEvent) × CopiesAreDelivered (copies + 1) ts (Some next) then after → IsCutOff a b before after
  cut_after h = cut_more a b before question asks step.words notes then step.step h.0 h.1 after (so_many h.0 (Some h.1) h.2)
