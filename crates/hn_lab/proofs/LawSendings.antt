-- Router Advertisements are sent in one way.
use Rattle.hn_base.proofs.Names.{◌≡◌, ◌∙◌, ◌⊎◌, inl, inr, ℕ, Bool, true, false, List, Option, None, Some, refl, sym, ap, subst, if◌then◌else◌, same_Some, none-some}
use Rattle.hn_lab.proofs.Names.{position, IsAdvert, advert_bytes, Advert, EpId, Name, PlainSender, solicited, is_due, RouterHasOneAdvert, State, Member, Stop, Sending, Shape, IsKnownRoute}
use Rattle.hn_lab.proofs.Names.{AdvertIsUnique, Nothing, EachProcess, shape_of, sends_at, sender_endpoints, IsSenderAt, ra_line, IsAsked, line_if, sending_now, with_this, drawing, IsTurn}
use Rattle.hn_lab.proofs.Names.{MayTurn, TurnEnds, Turns, IsSolicited, Solicits, Stage, TellsLines}
use Rattle.std.specs.Prelude.{slice_get}
use Rattle.hn_lab.proofs.LawAlike.{Grows, grows_none, grows_from, Agree, AreOne, IsSole, sole_at, sole_nothing, sole_then, sole_each}
use Rattle.hn_lab.proofs.LawTells.{sole_tells}
use Rattle.hn_play.specs.Sending.{IsDue, HasNoTurn}
use Rattle.hn_router.specs.Advertising.{IsAdvertAt}

-- ---- what decides a turn is one thing

one_at : (name : Name) (e : EpId) (senders : List Sending) (i j : ℕ) (s t : Sending) → IsSenderAt name e senders i s → IsSenderAt name e senders j t → (i ≡ j) × (s ≡ t)
one_at name e senders i j s t h k =
    let place : i ≡ j = same_Some i j (sym h.is_first ∙ k.is_first) in
    let there : slice_get senders j ≡ Some s = subst (λ (n : ℕ). slice_get senders n ≡ Some s) place h.is_there in
    (place, same_Some s t (sym there ∙ k.is_there))

one_asked : (now : ℕ) (shape : Shape) (s : Sending) (a b : PlainSender) → IsAsked now shape s a → IsAsked now shape s b → a ≡ b
one_asked now shape s a b (inl h) (inl k) = h.1 ∙ sym k.1
one_asked now shape s a b (inl h) (inr k) = absurd (k.0 h.0)
one_asked now shape s a b (inr h) (inl k) = absurd (h.0 k.0)
one_asked now shape s a b (inr h) (inr k) = h.1 ∙ sym k.1

one_due : (place : ℕ) (s : Sending) (shape : Shape) (c d : Bool) (p a b : Stage) → IsDue place s shape c p a → IsDue place s shape d p b → (c ≡ d) × (a ≡ b)
one_due place s shape c d p a b h k =
    let asked = one_asked p.world.moment shape s h.asked k.asked h.is_asked k.is_asked in
    let due : c ≡ d = h.due_is ∙ ap (is_due p.world.moment) asked ∙ sym k.due_is in
    (due, h.after_is ∙ (λ i. if due i then sending_now place s (asked i) shape p else with_this place (record s { sender = asked i }) p) ∙ sym k.after_is)

-- it leaves the route and the text
due_stays : (place : ℕ) (s : Sending) (shape : Shape) (due : Bool) (p a : Stage) → IsDue place s shape due p a → (a.route ≡ p.route) × (a.text ≡ p.text)
due_stays place s shape due p a h =
    let stays = by_test due in
    (ap (λ (x : Stage). x.route) h.after_is ∙ stays.0, ap (λ (x : Stage). x.text) h.after_is ∙ stays.1)
  where
    by_test : (b : Bool) → ((if b then sending_now place s h.asked shape p else with_this place (record s { sender = h.asked }) p).route ≡ p.route)
        × ((if b then sending_now place s h.asked shape p else with_this place (record s { sender = h.asked }) p).text ≡ p.text)
    by_test true = (refl, refl)
    by_test false = (refl, refl)

-- it has a turn or none
not_both : (name : Name) (e : EpId) (c : Option Stop) (p a : Stage) → HasNoTurn name e p → IsTurn name e c p a → ⊥
not_both name e c p a (inl none) h = none-some h.member (sym none ∙ h.is_member)
not_both name e c p a (inr none) h = none-some h.place (sym none ∙ h.is_at.is_first)

module _ (adverts : RouterHasOneAdvert) (readings : AdvertIsUnique) where
  one_advertisement : (s : State) (e : EpId) (a b : Advert) → IsAdvertAt s e a → IsAdvertAt s e b → IsAdvert (advert_bytes a) a → IsAdvert (advert_bytes b) b → a ≡ b
  one_advertisement s e a b f g first second =
      let bytes = adverts s e (advert_bytes a) (advert_bytes b) (a, f, refl) (b, g, refl) in
      readings (advert_bytes a) a b first (subst (λ (bs : List ℕ). IsAdvert bs b) (sym bytes) second)

  module _ (name : Name) (e : EpId) where
    -- the other turn tells the same, from the same stage
    same_turn : (c d : Option Stop) (p a b : Stage) (h : IsTurn name e c p a) → IsTurn name e d p b
        → TellsLines (line_if h.due (ra_line name e p.world.moment (advert_bytes h.advert))) d h.between b
    same_turn c d p a b h k =
        let member : k.member ≡ h.member = same_Some k.member h.member (sym k.is_member ∙ h.is_member) in
        let at = one_at name e p.senders k.place h.place k.sending h.sending k.is_at h.is_at in
        let is_advert : IsAdvertAt h.member.router e k.advert = subst (λ (m : Member). IsAdvertAt m.router e k.advert) member k.is_advert in
        let advert : k.advert ≡ h.advert = one_advertisement h.member.router e k.advert h.advert is_advert h.is_advert k.is_read h.is_read in
        let comes : IsDue h.place h.sending (shape_of h.advert) k.due p k.between =
        subst (λ (x : Advert). IsDue h.place h.sending (shape_of x) k.due p k.between) advert
        (subst (λ (s : Sending). IsDue h.place s (shape_of k.advert) k.due p k.between) at.1
        (subst (λ (n : ℕ). IsDue n k.sending (shape_of k.advert) k.due p k.between) at.0 k.comes)) in
        let due = one_due h.place h.sending (shape_of h.advert) k.due h.due p k.between h.between comes h.comes in
        subst (λ (s : Stage). TellsLines (line_if h.due (ra_line name e p.world.moment (advert_bytes h.advert))) d s b) due.1
        (subst (λ (x : Bool). TellsLines (line_if x (ra_line name e p.world.moment (advert_bytes h.advert))) d k.between b) due.0
        (subst (λ (x : Advert). TellsLines (line_if k.due (ra_line name e p.world.moment (advert_bytes x))) d k.between b) advert k.ends))

    told_between : (c : Option Stop) (p a : Stage) → (h : IsTurn name e c p a) → IsKnownRoute p.route → IsKnownRoute h.between.route
    told_between c p a h told = subst IsKnownRoute (sym (due_stays h.place h.sending (shape_of h.advert) h.due p h.between h.comes).0) told

    sole_may_turn : IsSole (MayTurn name e)
    sole_may_turn = record { one = one; keeps = keeps; grows = grows }
      where
        one : (c d : Option Stop) (p a b : Stage) → IsKnownRoute p.route → MayTurn name e c p a → MayTurn name e d p b → Agree c d a b
        one c d p a b told (inl h) (inl k) = AreOne (h.1 ∙ sym k.1) (h.2 ∙ sym k.2)
        one c d p a b told (inl h) (inr k) = absurd (not_both name e d p b h.0 k)
        one c d p a b told (inr h) (inl k) = absurd (not_both name e c p a k.0 h)
        one c d p a b told (inr h) (inr k) =
            (sole_tells (line_if h.due (ra_line name e p.world.moment (advert_bytes h.advert)))).one c d h.between a b (told_between c p a h told) h.ends (same_turn c d p a b h k)

        keeps : (p a : Stage) → IsKnownRoute p.route → MayTurn name e None p a → IsKnownRoute a.route
        keeps p a told (inl h) = subst (λ (s : Stage). IsKnownRoute s.route) (sym h.2) told
        keeps p a told (inr h) =
            (sole_tells (line_if h.due (ra_line name e p.world.moment (advert_bytes h.advert)))).keeps h.between a (told_between None p a h told) h.ends

        grows : (c : Option Stop) (p a : Stage) → MayTurn name e c p a → Grows p a
        grows c p a (inl h) = grows_none p a (ap (λ (s : Stage). s.text) h.2)
        grows c p a (inr h) =
            grows_from h.between p a (sym (due_stays h.place h.sending (shape_of h.advert) h.due p h.between h.comes).1)
            ((sole_tells (line_if h.due (ra_line name e p.world.moment (advert_bytes h.advert)))).grows c h.between a h.ends)

  pub sole_turns : (name : Name) → IsSole (Turns name)
  sole_turns name = sole_at (λ p. EachProcess (TurnEnds name) (sender_endpoints name p.senders))
      (λ p. sole_each (TurnEnds name) (λ e. sole_then Nothing (MayTurn name e) sole_nothing (sole_may_turn name e)) (sender_endpoints name p.senders))

-- ---- a solicitation

module _ (name : Name) (e : EpId) where
  answered : (p a : Stage) → IsSolicited name e p a → (a.route ≡ p.route) × (a.text ≡ p.text)
  answered p a h = (ap (λ (s : Stage). s.route) h.after_is, ap (λ (s : Stage). s.text) h.after_is)

  one_answer : (p a b : Stage) → IsSolicited name e p a → IsSolicited name e p b → a ≡ b
  one_answer p a b h k =
      let at = one_at name e p.senders h.place k.place h.sending k.sending h.is_at k.is_at in
      h.after_is ∙ (λ i. drawing true (with_this (at.0 i) (record (at.1 i) { sender = solicited p.world.moment (p.words 0) (at.1 i).sender }) p)) ∙ sym k.after_is

  pub sole_solicits : IsSole (Solicits name e)
  sole_solicits = record {
    one = λ c d p a b told h k. AreOne (h.0 ∙ sym k.0) (once p a b h.1 k.1);
    keeps = λ p a told h. subst IsKnownRoute (sym (stays p a h.1).0) told;
    grows = λ c p a h. grows_none p a (stays p a h.1).1;
  }
    where
      once : (p a b : Stage) → ((position (sends_at name e) p.senders ≡ None) × (a ≡ p)) ⊎ IsSolicited name e p a
          → ((position (sends_at name e) p.senders ≡ None) × (b ≡ p)) ⊎ IsSolicited name e p b → a ≡ b
      once p a b (inl h) (inl k) = h.1 ∙ sym k.1
      once p a b (inl h) (inr k) = absurd (none-some k.place (sym h.0 ∙ k.is_at.is_first))
      once p a b (inr h) (inl k) = absurd (none-some h.place (sym k.0 ∙ h.is_at.is_first))
      once p a b (inr h) (inr k) = one_answer p a b h k

      stays : (p a : Stage) → ((position (sends_at name e) p.senders ≡ None) × (a ≡ p)) ⊎ IsSolicited name e p a → (a.route ≡ p.route) × (a.text ≡ p.text)
      stays p a (inl h) = (ap (λ (s : Stage). s.route) h.1, ap (λ (s : Stage). s.text) h.1)
      stays p a (inr h) = answered p a h
