-- Over one stream of words an exchange ends in at most one way.
use Rattle.hn_base.proofs.Names.{◌≡◌, ◌∙◌, ◌<◌, ◌+◌, ◌-◌, ℕ, suc, Bool, true, false, cond, List, [], ◌∷◌, length, slice_get, Option, Some, None, sym, ap, subst, refl, inl, inr, arith, ◌||◌, is_none}
use Rattle.hn_base.proofs.Names.{nat_le, cases_lt, same_Some, slice_get_past, Begins, IsAt}
use Rattle.hn_sync.proofs.Names.{◌==◌, Name, Note, Traced, WEvent, Parts, EachEventIsEntered, acting, names_nothing, is_stopped, lacks_the_endpoint, lacks_a_copy, lacks_room, is_full_of_mail}
use Rattle.hn_sync.proofs.Names.{first_code, refusal, Goes, words_of_trace, Step, IsStep, IsQuestion, AreDeliveries, AreOfExchange, delivery, next_event, ExchangeEnds, QuestionIsUnique}
use Rattle.std.proofs.lemmas.List.{append_cancel_left}
use Rattle.hn_base.proofs.FirstWords.{begins_front, begins_back}
use Rattle.hn_base.proofs.FrontOfList.{head_is}
use Rattle.hn_world.specs.declared.event.WEvent.TheVariants as event
use Rattle.hn_world.specs.Laws.{StepIsUnique}
use Rattle.hn_sync.specs.Laws.{ExchangeIsUnique}
use Rattle.hn_sync.proofs.Delivered.{one_delivery}
use Rattle.hn_sync.proofs.WordsOfStream.{took_first, first_told}

-- ---- how a list of events stops

-- nothing comes next, or an event that is refused
abbrev Stops : Option ℕ → Option WEvent → Parts → Type 0
Stops None next w = next ≡ None
Stops (Some code) next w = (e : WEvent) × (next ≡ Some e) × (refusal w e ≡ Some code)

-- so that an event that comes next is not accepted
stopped : (code : Option ℕ) (next : Option WEvent) (w : Parts) (e : WEvent) → Stops code next w → next ≡ Some e → refusal w e ≡ None → ⊥
stopped None next w e stops is accepted = absurd (let none : None ≡ Some e = sym stops ∙ is in cc)
stopped (Some code) next w e stops is accepted =
    let same : stops.0 ≡ e = same_Some stops.0 e (sym stops.1 ∙ is) in
    let refused : refusal w e ≡ Some code = subst (λ (x : WEvent). refusal w x ≡ Some code) same stops.2 in
    let none : None ≡ Some code = sym accepted ∙ refused in
    absurd (cc)

-- and it stops with one code
one_code : (code other : Option ℕ) (next : Option WEvent) (w : Parts) → Stops code next w → Stops other next w → code ≡ other
one_code None None next w h k = refl
one_code None (Some other) next w h k = absurd (let none : None ≡ Some k.0 = sym h ∙ k.1 in cc)
one_code (Some code) None next w h k = absurd (let none : None ≡ Some h.0 = sym k ∙ h.1 in cc)
one_code (Some code) (Some other) next w h k =
    let same : h.0 ≡ k.0 = same_Some h.0 k.0 (sym h.1 ∙ k.1) in
    let first : refusal w k.0 ≡ Some code = subst (λ (x : WEvent). refusal w x ≡ Some code) same h.2 in
    sym first ∙ k.2

-- a delivery that is accepted has its copy
has_copy : (unknown stopped lacks no_copy full full_of_mail : Bool)
    → first_code ((7, unknown) ∷ (12, stopped) ∷ (11, lacks) ∷ (13, no_copy) ∷ (9, full) ∷ (16, full_of_mail) ∷ []) ≡ None → no_copy ≡ false
has_copy true stopped lacks no_copy full full_of_mail none = absurd cc
has_copy false true lacks no_copy full full_of_mail none = absurd cc
has_copy false false true no_copy full full_of_mail none = absurd cc
has_copy false false false true full full_of_mail none = absurd cc
has_copy false false false false full full_of_mail none = refl

-- a copy that is not there is not delivered
gone : (w : Parts) (copy : ℕ) → length w.copies < copy → refusal w (event.Deliver copy) ≡ None → ⊥
gone w copy past accepted =
    let none = by_test (copy == 0) (slice_get_past w.copies (copy - 1) (omega arith)) in
    let e = event.Deliver copy in
    let r = acting e w in
    let there : true ≡ false = sym (ap is_none none) ∙ has_copy (names_nothing e w r) (is_stopped e r) (lacks_the_endpoint e w r) (lacks_a_copy e w)
    (lacks_room e w r || nat_le 1000000 (length w.trace)) (is_full_of_mail w) accepted in
    absurd cc
  where
    by_test : (b : Bool) → slice_get w.copies (copy - 1) ≡ None → cond b None (slice_get w.copies (copy - 1)) ≡ None
    by_test true none = refl
    by_test false none = none

-- so where deliveries stop, the next one is not accepted
not_delivered : (code : Option ℕ) (copy : ℕ) (w : Parts) → Stops code (delivery copy w) w → refusal w (event.Deliver copy) ≡ None → ⊥
not_delivered code copy w stops accepted = elim (cases_lt (length w.copies) copy) [
  | inl past ↦ gone w copy past accepted
  | inr there ↦ stopped code (delivery copy w) w (event.Deliver copy) stops (one_delivery copy w there) accepted
]

-- ---- events one after another

module _ (unique : StepIsUnique) (enters : EachEventIsEntered) where
  -- two accepted entries of one event, each with the first words of the stream, are one, and so are the worlds after them
  one_entry : (f : ℕ → ℕ) (t u : Traced) (m n : List Note) (before a b : Parts) → t.event ≡ u.event → Begins t.words f → Begins u.words f → Step t m before a → Step u n before b → (t ≡ u) × (a ≡ b)
  one_entry f t u m n before a b same first second h k =
      let left : IsStep t.event m (Some f) (Some (λ place. f (length t.words + place))) before a = record { words = t.words; step = h; drew = took_first t.words f first } in
      let other : Step (record { event = t.event; words = u.words }) n before b = subst (λ (e : WEvent). Step (record { event = e; words = u.words }) n before b) (sym same) k in
      let right : IsStep t.event n (Some f) (Some (λ place. f (length u.words + place))) before b = record { words = u.words; step = other; drew = took_first u.words f second } in
      let one = unique t.event f (λ place. f (length t.words + place)) (λ place. f (length u.words + place)) m n before a b left right in
      let traces = sym (enters t m before a h) ∙ ap (λ (w : Parts). w.trace) one.0 ∙ enters u n before b k in
      (head_is (append_cancel_left before.trace (t ∷ []) (u ∷ []) traces), one.0)

  -- two lists of deliveries from one number on, which stop, are one
  one_list : (copy : ℕ) (f : ℕ → ℕ) (code other : Option ℕ) (before a b : Parts) (ts us : List Traced) → Goes before ts a → Goes before us b
      → AreDeliveries copy ts → AreDeliveries copy us → Begins (words_of_trace ts) f → Begins (words_of_trace us) f
      → Stops code (delivery (copy + length ts) a) a → Stops other (delivery (copy + length us) b) b → (ts ≡ us) × (a ≡ b) × (code ≡ other)
  one_list copy f code other before a b [] [] h k are be first second stops halts =
      let same : b ≡ a = k ∙ sym h in
      (refl, sym same, one_code code other (delivery (copy + 0) a) a stops (subst (λ (w : Parts). Stops other (delivery (copy + 0) w) w) same halts))
  one_list copy f code other before a b [] (u ∷ us) h k are be first second stops halts =
      let at : copy + 0 ≡ copy = omega arith in
      absurd (not_delivered code copy before (subst (λ (w : Parts). Stops code (delivery copy w) w) h (subst (λ (n : ℕ). Stops code (delivery n a) a) at stops))
      (subst (λ (e : WEvent). refusal before e ≡ None) be.0 k.1.1.accepted))
  one_list copy f code other before a b (t ∷ ts) [] h k are be first second stops halts =
      let at : copy + 0 ≡ copy = omega arith in
      absurd (not_delivered other copy before (subst (λ (w : Parts). Stops other (delivery copy w) w) k (subst (λ (n : ℕ). Stops other (delivery n b) b) at halts))
      (subst (λ (e : WEvent). refusal before e ≡ None) are.0 h.1.1.accepted))
  one_list copy f code other before a b (t ∷ ts) (u ∷ us) h k are be first second stops halts =
      let entry = one_entry f t u h.1.0 k.1.0 before h.0 k.0 (are.0 ∙ sym be.0) (begins_front t.words (words_of_trace ts) f first) (begins_front u.words (words_of_trace us) f second) h.1.1 k.1.1 in
      let at : copy + suc (length ts) ≡ suc copy + length ts = omega arith in
      let too : copy + suc (length us) ≡ suc copy + length us = omega arith in
      let later = subst (λ (x : Traced). Begins (words_of_trace us) (λ i. f (length x.words + i))) (sym entry.0) (begins_back u.words (words_of_trace us) f second) in
      let rest = one_list (suc copy) (λ i. f (length t.words + i)) code other h.0 a b ts us h.2 (subst (λ (w : Parts). Goes w us b) (sym entry.1) k.2) are.1 be.1
      (begins_back t.words (words_of_trace ts) f first) later (subst (λ (n : ℕ). Stops code (delivery n a) a) at stops) (subst (λ (n : ℕ). Stops other (delivery n b) b) too halts) in
      (λ i. entry.0 i ∷ rest.0 i, rest.1, rest.2)

  -- and so are two lists of a question and deliveries
  one_run : (question : WEvent) (copies : ℕ) (f : ℕ → ℕ) (code other : Option ℕ) (before a b : Parts) (ts us : List Traced) → Goes before ts a → Goes before us b
      → AreOfExchange question copies ts → AreOfExchange question copies us → Begins (words_of_trace ts) f → Begins (words_of_trace us) f
      → Stops code (next_event question copies (length ts) a) a → Stops other (next_event question copies (length us) b) b → (ts ≡ us) × (a ≡ b) × (code ≡ other)
  one_run question copies f code other before a b [] [] h k are be first second stops halts =
      let same : b ≡ a = k ∙ sym h in
      (refl, sym same, one_code code other (Some question) a stops (subst (λ (w : Parts). Stops other (Some question) w) same halts))
  one_run question copies f code other before a b [] (u ∷ us) h k are be first second stops halts =
      absurd (stopped code (Some question) before question (subst (λ (w : Parts). Stops code (Some question) w) h stops) refl (subst (λ (e : WEvent). refusal before e ≡ None) be.0 k.1.1.accepted))
  one_run question copies f code other before a b (t ∷ ts) [] h k are be first second stops halts =
      absurd (stopped other (Some question) before question (subst (λ (w : Parts). Stops other (Some question) w) k halts) refl (subst (λ (e : WEvent). refusal before e ≡ None) are.0 h.1.1.accepted))
  one_run question copies f code other before a b (t ∷ ts) (u ∷ us) h k are be first second stops halts =
      let entry = one_entry f t u h.1.0 k.1.0 before h.0 k.0 (are.0 ∙ sym be.0) (begins_front t.words (words_of_trace ts) f first) (begins_front u.words (words_of_trace us) f second) h.1.1 k.1.1 in
      let at : copies + suc (length ts) ≡ suc copies + length ts = omega arith in
      let too : copies + suc (length us) ≡ suc copies + length us = omega arith in
      let later = subst (λ (x : Traced). Begins (words_of_trace us) (λ i. f (length x.words + i))) (sym entry.0) (begins_back u.words (words_of_trace us) f second) in
      let rest = one_list (suc copies) (λ i. f (length t.words + i)) code other h.0 a b ts us h.2 (subst (λ (w : Parts). Goes w us b) (sym entry.1) k.2) are.1 be.1
      (begins_back t.words (words_of_trace ts) f first) later (subst (λ (n : ℕ). Stops code (delivery n a) a) at stops) (subst (λ (n : ℕ). Stops other (delivery n b) b) too halts) in
      (λ i. entry.0 i ∷ rest.0 i, rest.1, rest.2)

  -- ---- an exchange

  record Ending (a b : Name) (code : Option ℕ) (told rest : ℕ → ℕ) (before after : Parts) : Type 0 where
    question : WEvent
    asks : IsQuestion a b before question
    ts : List Traced
    goes : Goes before ts after
    events : AreOfExchange question (length before.copies) ts
    stops : Stops code (next_event question (length before.copies) (length ts) after) after
    words : IsAt (Some rest) told (words_of_trace ts)

  ending : (a b : Name) (code : Option ℕ) (told rest : ℕ → ℕ) (before after : Parts) → ExchangeEnds a b code (Some told) (Some rest) before after → Ending a b code told rest before after
  ending a b None told rest before after h =
      record {
        question = h.begun.question;
        asks = h.begun.asks;
        ts = h.ts;
        goes = h.begun.goes;
        events = h.begun.events;
        stops = sym h.begun.is_next;
        words = first_told told rest (words_of_trace h.ts) h.drew;
      }
  ending a b (Some code) told rest before after h =
      let far = h.comes in
      record {
        question = far.begun.question;
        asks = far.begun.asks;
        ts = far.ts;
        goes = far.begun.goes;
        events = far.begun.events;
        stops = (h.next, sym far.begun.is_next, h.refused);
        words = first_told told rest (words_of_trace far.ts) far.drew;
      }

  pub one_end : QuestionIsUnique → ExchangeIsUnique
  one_end one_question a b code other_code told rest other_rest before after other ends halts =
      let h = ending a b code told rest before after ends in
      let k = ending a b other_code told other_rest before other halts in
      let same = one_question a b before h.question k.question h.asks k.asks in
      let copies = length before.copies in
      let one = one_run h.question copies told code other_code before after other h.ts k.ts h.goes k.goes h.events
      (subst (λ (q : WEvent). AreOfExchange q copies k.ts) (sym same) k.events) h.words.begins k.words.begins h.stops
      (subst (λ (q : WEvent). Stops other_code (next_event q copies (length k.ts) other) other) (sym same) k.stops) in
      let left : rest ≡ (λ place. told (length (words_of_trace h.ts) + place)) = same_Some rest (λ place. told (length (words_of_trace h.ts) + place)) h.words.rest in
      let right : other_rest ≡ (λ place. told (length (words_of_trace k.ts) + place)) = same_Some other_rest (λ place. told (length (words_of_trace k.ts) + place)) k.words.rest in
      record { code_is = one.2; rest_is = left ∙ ap (λ (ts : List Traced). λ (place : ℕ). told (length (words_of_trace ts) + place)) one.0 ∙ sym right; world_is = one.1 }
