-- The log of turns leads from router to router, and does so once.
use Rattle.hn_base.proofs.Names.{◌≡◌, ◌∙◌, ◌+◌, inl, inr, ℕ, zero, suc, List, [], ◌∷◌, ◌++◌, Option, None, Some, length, refl, sym, ap, subst, slice_index, Begins}
use Rattle.hn_node.proofs.Names.{Datagram, Done, State, Happened, Logged, NodeEvent, PlainSite, Serving, plain_of, IsLoggedEvent, Arrives, IsLoggedTurn, AreTurns, CutTurn, logged_words}
use Rattle.hn_base.proofs.FirstWords.{begins_front, begins_back, begins_along}
use Rattle.hn_router.specs.Laws.{OneResult}
use Rattle.hn_node.specs.declared.logged.NodeEvent.TheVariants as node
use Rattle.hn_node.specs.Laws.{LogLeads, events_of, TurnsAreLogged, LogLeadsOnce}

-- ---- one log after another

leads_both : (log more : List Logged) (before between after : State) → LogLeads log before between → LogLeads more between after → LogLeads (log ++ more) before after
leads_both [] more before between after h k = subst (λ (s : State). LogLeads more s after) h k
leads_both (l ∷ log) more before between after h k = (h.0, h.1, leads_both log more h.0 between after h.2 k)

of_entry : (now : ℕ) (event : NodeEvent) (l : Logged) (before after : State) → IsLoggedEvent now event l before after → IsLoggedEvent l.moment l.event l before after
of_entry now event l before after h = record {
  moment_is = refl;
  event_is = refl;
  done = h.done;
  happened = subst (λ (n : ℕ). Happened n (plain_of l.event) before after h.done) (sym h.moment_is)
      (subst (λ (e : NodeEvent). Happened now (plain_of e) before after h.done) (sym h.event_is) h.happened);
  words_are = h.words_are;
  sends_are = h.sends_are;
}

-- of one entry, from a router that is the same
leads_entry : (now : ℕ) (event : NodeEvent) (l : Logged) (entries : List Logged) (first before after : State) → before ≡ first → entries ≡ l ∷ []
    → IsLoggedEvent now event l before after → LogLeads entries first after
leads_entry now event l entries first before after same are h =
    subst (λ (log : List Logged). LogLeads log first after) (sym are) (subst (λ (s : State). LogLeads (l ∷ []) s after) same (after, of_entry now event l before after h, refl))

leads_first : (at : PlainSite) (now : ℕ) (taken : Option NodeEvent) (entries : List Logged) (before after : Serving)
    → Arrives at now taken entries before after → LogLeads entries before.router after.router
leads_first at now None entries before after h = subst (λ (log : List Logged). LogLeads log before.router after.router) (sym h.0) (ap (λ (s : Serving). s.router) h.1)
leads_first at now (Some event) entries before after h = leads_entry now event h.0 entries before.router before.router after.router refl h.2 h.1.entry

-- what arrived, and the tick after it
leads_tick : (at : PlainSite) (now : ℕ) (taken : Option NodeEvent) (first entries : List Logged) (tick : Logged) (start : State) (begun between : Serving) (after : State)
    → begun.router ≡ start → Arrives at now taken first begun between → IsLoggedEvent now node.Tick tick between.router after → entries ≡ first ++ tick ∷ [] → LogLeads entries start after
leads_tick at now taken first entries tick start begun between after same arrives entry are =
    let one = leads_entry now node.Tick tick (tick ∷ []) between.router between.router after refl refl entry in
    let both = leads_both first (tick ∷ []) begun.router between.router after (leads_first at now taken first begun between arrives) one in
    subst (λ (log : List Logged). LogLeads log start after) (sym are) (subst (λ (s : State). LogLeads (first ++ tick ∷ []) s after) same both)

leads_turn : (at : PlainSite) (now : ℕ) (entries : List Logged) (before after : Serving) → IsLoggedTurn at now entries before after → LogLeads entries before.router after.router
leads_turn at now entries before after h =
    leads_tick at now h.taken h.first entries h.tick before.router h.begun h.between after.router h.begins.router h.arrives h.ticks.entry h.entries_are

leads_turns : (at : PlainSite) (n : ℕ) (log : List Logged) (before after : Serving) (readings rest : Option (List ℕ)) → AreTurns at n log before after readings rest
    → LogLeads log before.router after.router
leads_turns at zero log before after readings rest h = subst (λ (log : List Logged). LogLeads log before.router after.router) (sym h.0) (ap (λ (s : Serving). s.router) h.1)
leads_turns at (suc n) log before after readings rest h =
    subst (λ (log : List Logged). LogLeads log before.router after.router) (sym h.8)
    (leads_both h.1 h.2 before.router h.0.router after.router (leads_turns at n h.1 before h.0 readings h.4 h.5) (leads_turn at h.3 h.2 h.0 after h.7))

leads_cut : (at : PlainSite) (now : ℕ) (entries : List Logged) (handed : List Datagram) (before after : Serving) → CutTurn at now entries handed before after
    → LogLeads entries before.router after.router
leads_cut at now entries handed before after (inl h) = subst (λ (log : List Logged). LogLeads log before.router after.router) (sym h.entries_are) h.router
leads_cut at now entries handed before after (inr (inl h)) =
    leads_entry now h.taken h.last entries before.router h.begun.router after.router h.begins.router h.entries_are h.cut.entry
leads_cut at now entries handed before after (inr (inr h)) =
    leads_tick at now h.taken h.first entries h.last before.router h.begun h.between after.router h.begins.router h.arrives h.cut.entry h.entries_are

pub turns_logged : TurnsAreLogged
turns_logged = record {
  turns = leads_turns;
  cut = λ at n log handed before after readings rest h.
      subst (λ (log : List Logged). LogLeads log before.router after.router) (sym h.log_is)
      (leads_both h.past h.entries before.router h.between.router after.router (leads_turns at h.made h.past before h.between readings h.left h.whole)
      (leads_cut at h.now h.entries h.last h.between after h.cut));
}

-- ---- one log

same_logged : (l m : Logged) → l.moment ≡ m.moment → l.event ≡ m.event → l.words ≡ m.words → l.sends ≡ m.sends → l ≡ m
same_logged l m moment event words sends = λ i. record { moment = moment i; event = event i; words = words i; sends = sends i }

once : OneResult → (log other : List Logged) (first a b : State) (stream : ℕ → ℕ) → events_of log ≡ events_of other → Begins (logged_words log) stream → Begins (logged_words other) stream
    → LogLeads log first a → LogLeads other first b → (a ≡ b) × (log ≡ other)
once one [] [] first a b stream events x y h k = (h ∙ sym k, refl)
once one [] (m ∷ other) first a b stream events x y h k = cc
once one (l ∷ log) [] first a b stream events x y h k = cc
once one (l ∷ log) (m ∷ other) first a b stream events x y h k =
    let heads : ◌≡◌ {A = ℕ × NodeEvent} (l.moment, l.event) (m.moment, m.event) = cc in
    let tails : events_of log ≡ events_of other = cc in
    let moment : l.moment ≡ m.moment = ap (λ (p : ℕ × NodeEvent). p.0) heads in
    let event : l.event ≡ m.event = ap (λ (p : ℕ × NodeEvent). p.1) heads in
    let right : Happened l.moment (plain_of l.event) first k.0 k.1.done =
    subst (λ (n : ℕ). Happened n (plain_of l.event) first k.0 k.1.done) (sym moment) (subst (λ (e : NodeEvent). Happened m.moment (plain_of e) first k.0 k.1.done) (sym event) k.1.happened) in
    let same = one l.moment (plain_of l.event) first h.0 k.0 h.1.done k.1.done stream h.1.happened right
    (begins_along l.words h.1.done.words stream h.1.words_are (begins_front l.words (logged_words log) stream x))
    (begins_along m.words k.1.done.words stream k.1.words_are (begins_front m.words (logged_words other) stream y)) in
    let words : l.words ≡ m.words = h.1.words_are ∙ ap (λ (d : Done). d.words) same.1 ∙ sym k.1.words_are in
    let sends : l.sends ≡ m.sends = h.1.sends_are ∙ ap (λ (d : Done). d.sends) same.1 ∙ sym k.1.sends_are in
    let later : Begins (logged_words other) (λ i. stream (length l.words + i)) =
    subst (λ (n : ℕ). Begins (logged_words other) (λ i. stream (n + i))) (ap length (sym words)) (begins_back m.words (logged_words other) stream y) in
    let rest = once one log other h.0 a b (λ i. stream (length l.words + i)) tails (begins_back l.words (logged_words log) stream x) later h.2
    (subst (λ (s : State). LogLeads other s b) (sym same.0) k.2) in
    (rest.0, λ i. same_logged l m moment event words sends i ∷ rest.1 i)

pub leads_once : OneResult → LogLeadsOnce
leads_once one log other first a b events words h k =
    let own : Begins (logged_words log) (λ i. slice_index (logged_words log) i) = λ i within. refl in
    once one log other first a b (λ i. slice_index (logged_words log) i) events own (begins_along (logged_words log) (logged_words other) (λ i. slice_index (logged_words log) i) words own) h k
