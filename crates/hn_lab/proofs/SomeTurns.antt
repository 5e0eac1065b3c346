-- Router Advertisements are sent, routers tick, and time passes: it cannot be that this does not end.
use Rattle.hn_base.proofs.Names.{◌≡◌, ◌+◌, ◌<◌, ◌≤◌, ◌^◌, ℕ, suc, min, Bool, true, false, cond, List, [], ◌∷◌, get_or, Option, None, Some, refl, inl, inr, arith, cases_lt, All-contains, position-Some}
use Rattle.hn_base.proofs.Names.{slice_get-get_or, Some!, name_text}
use Rattle.hn_lab.proofs.Names.{position, IsAdvert, advert_bytes, Advert, EpId, Name, found_passes, some_by, some_then, PlainSender, solicited, is_due, AdvertExists, IsRouter}
use Rattle.hn_lab.proofs.Names.{WorldIsSound, is_named, member_named, running_names, IsReplayed, IsSoundMember, Member, Parts, Sending, Shape, EventEnds, Flow, Passes, Round, Runs, Ticks}
use Rattle.hn_lab.proofs.Names.{ComesToAnEnd, IsFit, IsOn, Nothing, ThenProcess, shape_of, sends_at, sender_endpoints, IsSenderAt, ra_line, IsAsked, line_if, sending_now, with_this, drawing}
use Rattle.hn_lab.proofs.Names.{MayTurn, TurnEnds, Turns, TickEnds, Solicits, Stage}
use Rattle.hn_advert.specs.Advert.{IsInRange}
use Rattle.hn_world.specs.declared.event.WEvent.TheVariants as event
use Rattle.hn_lab.proofs.SomeEnds.{ends_each, ends_nothing, ends_then, ends_until, fit_told}
use Rattle.hn_lab.proofs.SomeEvents.{EventLaws, ends_event_whatever, ends_flow, weaker}
use Rattle.hn_radv.specs.Sender.{draws, sent}

-- bytes that are written for an advertisement are read as that again
abbrev pub AdvertIsRead : Type 0
AdvertIsRead = (a : Advert) → IsInRange a → IsAdvert (advert_bytes a) a

-- the laws on which it rests
pub record TurnLaws : Type 0 where
  pub events : EventLaws
  pub sound : WorldIsSound
  pub adverts : AdvertExists
  pub read : AdvertIsRead

-- a router of a replayed world is one
pub router_named : WorldIsSound → (name : Name) (w : Parts) (m : Member) → IsReplayed w → member_named (name_text name) w ≡ Some m → IsRouter m.router
router_named sound name w m replayed named =
    (All-contains (IsSoundMember w.moment) w.members m (sound w replayed) (found_passes (is_named (name_text name)) w.members m named).0).router

-- ---- a turn

-- that of an endpoint is there
some_sender : (name : Name) (e : EpId) (senders : List Sending) (place : ℕ) → position (sends_at name e) senders ≡ Some place → (s : Sending) × IsSenderAt name e senders place s
some_sender name e [] place is = absurd cc
some_sender name e (x ∷ xs) place is =
    let found = position-Some (sends_at name e) (x ∷ xs) place x is in
    (get_or (x ∷ xs) place x, record { is_first = is; is_there = slice_get-get_or (x ∷ xs) place x found.0 })

some_asked : (now : ℕ) (shape : Shape) (s : Sending) → Some! (IsAsked now shape s)
some_asked now shape s = some_by (s.shape ≡ Some shape) (λ same none. none s.sender (inl (same, refl))) (λ other none. none (solicited now 0 s.sender) (inr (other, refl)))

fit_beside : (p : Stage) (senders : List Sending) → IsFit p → IsFit (record p { senders = senders })
fit_beside p senders fit = record { mail = fit.mail; replayed = fit.replayed; room = fit.room; words = fit.words }

fit_drawing : (draw : Bool) (p : Stage) → IsFit p → IsFit (drawing draw p)
fit_drawing true p fit = record { mail = fit.mail; replayed = fit.replayed; room = fit.room; words = λ place. fit.words (suc place) }
fit_drawing false p fit = record { mail = fit.mail; replayed = fit.replayed; room = fit.room; words = fit.words }

module _ (p : Stage) (fit : IsFit p) (place : ℕ) (s : Sending) (shape : Shape) where
  -- where an advertisement is due, it is sent
  abbrev turned : PlainSender → Bool → Stage
  turned asked due = cond due (sending_now place s asked shape p) (with_this place (record s { sender = asked }) p)

  turned_on : (asked : PlainSender) (due : Bool) → IsOn 0 p (turned asked due)
  turned_on asked true = record {
    fit = fit_drawing (draws asked) (with_this place (record s { sender = sent p.world.moment (p.words 0) asked; shape = Some shape }) p) (fit_beside p _ fit);
    grows = omega arith;
  }
  turned_on asked false = record { fit = fit_beside p _ fit; grows = omega arith }

module _ (laws : TurnLaws) (name : Name) (e : EpId) where
  has_turn : (p : Stage) → IsFit p → (m : Member) → member_named (name_text name) p.world ≡ Some m → (place : ℕ) → position (sends_at name e) p.senders ≡ Some place
      → ComesToAnEnd 0 (MayTurn name e) p
  has_turn p fit m named place is =
      let (s, at) = some_sender name e p.senders place is in
      some_then (laws.adverts m.router e (router_named laws.sound name p.world m fit.replayed named)) (λ advert is_advert.
      some_then (some_asked p.world.moment (shape_of advert) s) (λ asked is_asked none.
      let due = is_due p.world.moment asked in
      let between = turned p fit place s (shape_of advert) asked due in
      let on = turned_on p fit place s (shape_of advert) asked due in
      let told = fit_told (line_if due (ra_line name e p.world.moment (advert_bytes advert))) between on.fit _ refl in
      let first = on.grows in
      let second = told.grows in
      none (record { code = None; stage = _ }) (
        inr (record {
          member = m;
          is_member = named;
          place = place;
          sending = s;
          is_at = at;
          advert = advert;
          is_advert = is_advert.0;
          is_read = laws.read advert is_advert.1;
          due = due;
          between = between;
          comes = record { asked = asked; is_asked = is_asked; due_is = refl; after_is = refl };
          ends = refl;
        }),
        record { fit = told.fit; grows = omega (arith, first, second) },
      )))

  ends_turn : (p : Stage) → IsFit p → ComesToAnEnd 0 (MayTurn name e) p
  ends_turn p fit = by_member (member_named (name_text name) p.world) refl
    where
      by_place : (m : Member) → member_named (name_text name) p.world ≡ Some m → (o : Option ℕ) → position (sends_at name e) p.senders ≡ o → ComesToAnEnd 0 (MayTurn name e) p
      by_place m named None is = λ none. none (record { code = None; stage = p }) (inl (inr is, refl, refl), record { fit = fit; grows = omega arith })
      by_place m named (Some place) is = has_turn p fit m named place is

      by_member : (o : Option Member) → member_named (name_text name) p.world ≡ o → ComesToAnEnd 0 (MayTurn name e) p
      by_member None is = λ none. none (record { code = None; stage = p }) (inl (inl is, refl, refl), record { fit = fit; grows = omega arith })
      by_member (Some m) is = by_place m is (position (sends_at name e) p.senders) refl

  -- ---- a solicitation

  pub ends_solicits : (p : Stage) → IsFit p → ComesToAnEnd 0 (Solicits name e) p
  ends_solicits p fit = by_place (position (sends_at name e) p.senders) refl
    where
      by_place : (o : Option ℕ) → position (sends_at name e) p.senders ≡ o → ComesToAnEnd 0 (Solicits name e) p
      by_place None is = λ none. none (record { code = None; stage = p }) ((refl, inl (is, refl)), record { fit = fit; grows = omega arith })
      by_place (Some place) is = λ none.
          let (s, at) = some_sender name e p.senders place is in
          none (record { code = None; stage = _ }) (
            (refl, inr (record { place = place; sending = s; is_at = at; after_is = refl })),
            record { fit = fit_drawing true _ (fit_beside p _ fit); grows = omega arith },
          )

-- ---- ticks, and time that passes

module _ (laws : TurnLaws) where
  pub ends_turns : (name : Name) (p : Stage) → IsFit p → ComesToAnEnd 0 (Turns name) p
  ends_turns name p fit = ends_each (TurnEnds name) (sender_endpoints name p.senders) p fit
      (λ e there m is. ends_then 0 Nothing (MayTurn name e) m (ends_nothing m is) (λ k done on. ends_turn laws name e k on.fit))

  pub ends_tick : (name : Name) (p : Stage) → IsFit p → ComesToAnEnd 1 (TickEnds name) p
  ends_tick name p fit = ends_then 1 (EventEnds (event.Tick name)) (Turns name) p (ends_event_whatever laws.events (event.Tick name) p fit tt tt tt) (λ m done on. ends_turns name m on.fit)

  ends_ticks : (p : Stage) → IsFit p → ComesToAnEnd 0 Ticks p
  ends_ticks p fit = ends_each TickEnds (running_names p.world) p fit (λ name there m is. weaker m (TickEnds name) (ends_tick name m is))

  ends_round : (end step : ℕ) → end ≤ 2 ^ 48 → (p : Stage) → IsFit p → ComesToAnEnd 1 (Round end step) p
  ends_round end step low p fit =
      ends_then 1 (Passes end step) (ThenProcess Ticks Flow) p
      (ends_event_whatever laws.events (event.Time (min (p.world.moment + step) end)) p fit (omega (arith, low)) tt tt)
      (λ m done on. ends_then 0 Ticks Flow m (ends_ticks m on.fit) (λ k ticked also. ends_flow laws.events k also.fit))

  pub ends_runs : (end step : ℕ) → end ≤ 2 ^ 48 → (p : Stage) → IsFit p → ComesToAnEnd 0 (Runs end step) p
  ends_runs end step low p fit = elim (cases_lt end p.world.moment) [
    | inl past ↦ λ none. none (record { code = Some 10; stage = p }) (inl (past, refl, refl), tt)
    | inr still ↦ some_then (ends_until (λ m. m.world.moment < end) (Round end step) p (λ m is more. ends_round end step low m is) fit) (λ e h none. none e (inr (still, h.0), h.1))
  ]
