-- Choices are made, and exchanges go on to an end: it cannot be that they do not.
use Rattle.hn_base.proofs.Names.{◌≡◌, ◌+◌, ◌<◌, ◌^◌, ◌∙◌, ℕ, List, length, get_or, Option, None, Some, refl, sym, subst, arith, All, same_Some, slice_get-get_or, Some!, name_text, Begins}
use Rattle.hn_lab.proofs.Names.{IsChoice, Name, some_there, all_of, some_then, IsRouter, State, unless_exchange, Decides, IsOfBytesAt, member_named, unless_running, unless_runs, routed}
use Rattle.hn_lab.proofs.Names.{FitsAt}
use Rattle.hn_lab.proofs.Names.{IsWorldEventInRange, WEvent, Member, Parts, Chooses, MakesChoice, MayHappen, chosen_event, decided_event, ComesToAnEnd, GoesOn, IsFit, Stage, Exchanges}
use Rattle.hn_lab.proofs.Names.{SyncEnds, TellsLines, WorldIsSound}
use Rattle.hn_addr.specs.Laws.{ChoiceExists, ChosenAddressesFit, HasAChoice}
use Rattle.hn_addr.specs.declared.choice.Choice.{Choice}
use Rattle.hn_addr.specs.declared.choice.Choice.TheVariants as choice
use Rattle.hn_sync.specs.Exchange.{ExchangeEnds, HasAnEnd}
use Rattle.hn_sync.specs.Laws.{ExchangeExists, ExchangeRepairs}
use Rattle.hn_ula.specs.Laws.{AnnouncedIsPrefix, DecisionExists, HasADecision}
use Rattle.hn_ula.specs.declared.decision.Ula.{Ula}
use Rattle.hn_ula.specs.declared.decision.Ula.TheVariants as ula
use Rattle.hn_world.specs.Replay.{words_of_trace}
use Rattle.hn_play.proofs.FirstWords.{taken}
use Rattle.hn_lab.proofs.SomeEnds.{ends_after, ends_nothing, ends_tells, ends_then}
use Rattle.hn_lab.proofs.SomeEvents.{EventLaws, ends_event_whatever, goes_on, rest_of, weaker}
use Rattle.hn_lab.proofs.SomeTurns.{router_named}

-- ---- events that fit

-- what an event gives fits, if there is an event
abbrev pub EventFits : Option WEvent → Type 0
EventFits None = Unit {0}
EventFits (Some event) = IsWorldEventInRange event × FitsAt (routed event) × IsOfBytesAt (routed event)

pub ends_may_happen : EventLaws → (event : Option WEvent) (p : Stage) → IsFit p → EventFits event → ComesToAnEnd 0 (MayHappen event) p
ends_may_happen laws None p fit fits = ends_nothing p fit
ends_may_happen laws (Some event) p fit fits = weaker p (MayHappen (Some event)) (ends_event_whatever laws event p fit fits.0 fits.1 fits.2)

-- ---- a choice

-- the first words of a stream of words of 32 bits have 32 bits
words_fit : (words : List ℕ) (stream : ℕ → ℕ) → ((place : ℕ) → stream place < 2 ^ 32) → Begins words stream → All (λ word. word < 2 ^ 32) words
words_fit words stream small begins = all_of (λ (word : ℕ). word < 2 ^ 32) words (λ x there.
    let (k, less, is) = there in
    let one : get_or words k x ≡ get_or words k 0 = same_Some (get_or words k x) (get_or words k 0) (sym (slice_get-get_or words k x less) ∙ slice_get-get_or words k 0 less) in
    subst (λ (n : ℕ). n < 2 ^ 32) (sym (begins k less) ∙ sym one ∙ is) (small k))

-- over each stream of words some choice is made
abbrev MakesSome : {A : Type 0} → (State → A → List ℕ → Type 0) → State → Type 0
MakesSome {A} IsMadeBy s = (stream : ℕ → ℕ) → Some! (λ (o : A × List ℕ). IsMadeBy s o.0 o.1 × Begins o.1 stream)

module _ {A : Type 0} (laws : EventLaws) (sound : WorldIsSound) (name : Name) (IsMadeBy : State → A → List ℕ → Type 0) (event_for : A → Option WEvent)
    (told_of : A → List (List ℕ)) (makes : (s : State) → MakesSome IsMadeBy s)
    (fits : (s : State) (made : A) (words : List ℕ) → IsRouter s → IsMadeBy s made words → All (λ word. word < 2 ^ 32) words → EventFits (event_for made)) where
  ends_made : (p : Stage) → IsFit p → (m : Member) → member_named (name_text name) p.world ≡ Some m → ComesToAnEnd 0 (MakesChoice name IsMadeBy event_for told_of) p
  ends_made p fit m named = some_then (makes m.router p.words) (λ o made.
      let q : Stage = record p { words = rest_of p.words o.1 } in
      let q_fit : IsFit q = record { mail = fit.mail; replayed = fit.replayed; room = fit.room; words = λ place. fit.words (length o.1 + place) } in
      let event_fits = fits m.router o.0 o.1 (router_named sound name p.world m fit.replayed named) made.0 (words_fit o.1 p.words fit.words made.1) in
      some_then (ends_then 0 (MayHappen (event_for o.0)) (TellsLines (told_of o.0)) q (ends_may_happen laws (event_for o.0) q q_fit event_fits)
      (λ k done on. ends_tells (told_of o.0) k on.fit)) (λ e h none.
      none e (
        record { member = m; is_member = named; made = o.0; words = o.1; is_made = made.0; between = q; takes = record { begins = made.1; gives = refl }; ends = h.0 },
        from_there o.1 e.code e.stage h.1,
      )))
    where
      from_there : (words : List ℕ) (code : Option ℕ) (a : Stage) → GoesOn 0 code (record p { words = rest_of p.words words }) a → GoesOn 0 code p a
      from_there words None a on = record { fit = on.fit; grows = on.grows }
      from_there words (Some code) a on = tt

  pub ends_chooses : (p : Stage) → IsFit p → ComesToAnEnd 0 (Chooses name IsMadeBy event_for told_of) p
  ends_chooses p fit = ends_after (unless_runs name p.world) (MakesChoice name IsMadeBy event_for told_of) p fit (λ accepted.
      let m = some_there 7 unless_running (member_named (name_text name) p.world) accepted in
      ends_made p fit m.0 m.1)

-- addresses
chosen_fits : ChosenAddressesFit → (name : Name) (s : State) (made : Choice) (words : List ℕ) → IsRouter s → IsChoice s made words → EventFits (chosen_event name made)
chosen_fits fit name s choice.Keep words router made = tt
chosen_fits fit name s (choice.Set list) words router made = (tt, fit s list words router made, tt)

some_choice_made : ChoiceExists → (s : State) → MakesSome IsChoice s
unfolding HasAChoice
some_choice_made exists s = exists s

-- delegated prefixes
decided_fits : AnnouncedIsPrefix → (name : Name) (s : State) (made : Ula) (words : List ℕ) → Decides s made words → All (λ word. word < 2 ^ 32) words → EventFits (decided_event name made)
decided_fits is_prefix name s ula.Keep words decides fit = tt
decided_fits is_prefix name s (ula.Announce prefix) words decides fit =
    (tt, record { prefix_is = is_prefix s prefix words decides fit; valid_fits = omega arith; preferred_fits = omega arith }, tt)
decided_fits is_prefix name s (ula.Withdraw prefix) words decides fit = (tt, tt, tt)

some_decision_made : DecisionExists → (s : State) → MakesSome Decides s
unfolding HasADecision
some_decision_made exists s = exists s

-- the laws on which choices and exchanges rest
pub record ChoiceLaws : Type 0 where
  pub events : EventLaws
  pub sound : WorldIsSound
  pub choices : ChoiceExists
  pub addresses : ChosenAddressesFit
  pub decisions : DecisionExists
  pub announced : AnnouncedIsPrefix
  pub exchanges : ExchangeExists
  pub repairs : ExchangeRepairs

module _ (laws : ChoiceLaws) where
  pub ends_address : (name : Name) (told_of : Choice → List (List ℕ)) (p : Stage) → IsFit p → ComesToAnEnd 0 (Chooses name IsChoice (chosen_event name) told_of) p
  ends_address name told_of = ends_chooses laws.events laws.sound name IsChoice (chosen_event name) told_of (some_choice_made laws.choices)
      (λ s made words router is small. chosen_fits laws.addresses name s made words router is)

  pub ends_ula : (name : Name) (told_of : Ula → List (List ℕ)) (p : Stage) → IsFit p → ComesToAnEnd 0 (Chooses name Decides (decided_event name) told_of) p
  ends_ula name told_of = ends_chooses laws.events laws.sound name Decides (decided_event name) told_of (some_decision_made laws.decisions)
      (λ s made words router is small. decided_fits laws.announced name s made words is small)

  -- ---- an exchange

  module _ (a b : Name) (p : Stage) (fit : IsFit p) where
    exchanged : (code : Option ℕ) (rest : ℕ → ℕ) (world : Parts) → ExchangeEnds a b code (Some p.words) (Some rest) p.world world → ComesToAnEnd 0 (Exchanges a b) p
    exchanged None rest world ends = λ none.
        let on = goes_on laws.events ends.ts p.world world fit.replayed fit.room ends.begun.goes in
        let told = (taken (words_of_trace ends.ts) p.words rest ends.drew).1 in
        let after : Stage = record p { world = world; words = rest } in
        let small : (place : ℕ) → rest place < 2 ^ 32 = λ place.
        subst (λ (f : ℕ → ℕ). f place < 2 ^ 32) (sym told) (fit.words (length (words_of_trace ends.ts) + place))
        in
        let grew = on.2 in
        none (record { code = None; stage = after }) (
          (record { ends = ends; loss = refl; route = refl; senders = refl; text = refl }, laws.repairs a b ends.ts p.world world fit.replayed ends.begun),
          record { fit = record { mail = fit.mail; replayed = on.0; room = on.1; words = small }; grows = omega (arith, grew) },
        )
    exchanged (Some code) rest world ends = λ none.
        none (record { code = Some code; stage = record p { world = world; words = rest } }) (record { ends = ends; loss = refl; route = refl; senders = refl; text = refl }, tt)

    some_exchange : HasAnEnd a b p.world → ComesToAnEnd 0 (Exchanges a b) p
    unfolding HasAnEnd
    some_exchange exists = some_then (exists p.words) (λ e ends. exchanged e.code e.rest e.world ends)

    pub ends_sync : ComesToAnEnd 0 (SyncEnds a b) p
    ends_sync = ends_after (unless_exchange a b p.world) (Exchanges a b) p fit (λ accepted. some_exchange (laws.exchanges a b p.world fit.replayed accepted))
