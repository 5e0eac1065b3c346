-- What is so of the sender of an endpoint and of the text of a play, and stays so over turns and changes of senders.
use Rattle.hn_base.proofs.Names.{◌≡◌, ◌∙◌, ◌^◌, ◌<◌, ◌≤◌, ℕ, Bool, true, false, List, [], ◌∷◌, ◌++◌, append_assoc, Option, None, Some, sym, ap, subst, inl, inr, if◌then◌else◌, cases_Bool, both_ways}
use Rattle.hn_base.proofs.Names.{leb-true}
use Rattle.hn_spacing.proofs.Names.{append-nil, EpId, Name, PlainSender, solicited, sent, Parts, Stop, Refused, WireFailed, Cut, Sending, Shape, Nothing, EachProcess, sends_at, IsSenderAt, ra_line}
use Rattle.hn_spacing.proofs.Names.{Turns, Solicits, starting, Stage, TellsLines, Told, IsRaOf, BeginsSending}
use Rattle.hn_advert.specs.Advert.{advert_bytes}
use Rattle.hn_radv.specs.Sender.{started_sender}
use Rattle.hn_script.specs.declared.line.Line.TheVariants as line
use Rattle.hn_senders.specs.Senders.{sender_endpoints}
use Rattle.hn_play.specs.Sending.{IsAsked, IsDue, IsTurn, MayTurn, TurnEnds, IsSolicited, line_if, sending_now}
use Rattle.hn_play.specs.Stage.{telling}
use Rattle.hn_play.specs.Told.{told}
use Rattle.hn_spacing.proofs.KeptByProcesses.{Keeps, keeps_at, keeps_nothing, keeps_then, keeps_each}
use Rattle.hn_spacing.proofs.InvariantsOfPlays.{IsInvariant}
use Rattle.hn_spacing.proofs.NoRaLines.{AreOther, others_of_kind}
use Rattle.hn_spacing.proofs.RaLineTells.{ra_tells}
use Rattle.hn_spacing.proofs.SenderOfEndpoint.{sender_at, is_of, is_then, there_sends, set_other, was_this, set_this, StaysOrNot, without_one, without_all, with_other, with_this_one}

-- a line says of no moment that the endpoint sent then; of no other moment than this one, of those in range
abbrev pub IsNoRaOf : Name → EpId → Told → Type 0
IsNoRaOf name e t = (moment : ℕ) → ¬ IsRaOf name e moment t

abbrev pub IsOnlyOf : Name → EpId → ℕ → Told → Type 0
IsOnlyOf name e now t = (moment : ℕ) → moment < 2 ^ 64 → IsRaOf name e moment t → now ≡ moment

-- A fact of the sender of an endpoint and the text so far is kept: where another line comes up, where it sends no more, where
-- it is asked to send earlier, where it sends in time, and where it begins, if it may.
pub record IsKept (name : Name) (e : EpId) (MayBegin : Type 0) (Fact : Option PlainSender → List Told → Type 0) : Type 0 where
  pub told_other : (s : Option PlainSender) (text : List Told) (t : Told) → IsNoRaOf name e t → Fact s text → Fact s (text ++ t ∷ [])
  pub ends : (s : Option PlainSender) (text : List Told) → Fact s text → Fact None text
  pub asked : (s : PlainSender) (now word : ℕ) (text : List Told) → Fact (Some s) text → Fact (Some (solicited now word s)) text
  pub sends : (s : PlainSender) (now word : ℕ) (text : List Told) (t : Told) → s.next ≤ now → IsOnlyOf name e now t → Fact (Some s) text → Fact (Some (sent now word s)) (text ++ t ∷ [])
  pub begins : MayBegin → (s : Option PlainSender) (now : ℕ) (text : List Told) → Fact s text → Fact (Some (started_sender now)) text

AreOther_front : (name : Name) (e : EpId) (front back : List (List ℕ)) (line : List ℕ) → AreOther name e (front ++ line ∷ back) → AreOther name e (front ++ line ∷ [])
AreOther_front name e [] back line h = (h.0, tt)
AreOther_front name e (x ∷ front) back line h = (h.0, AreOther_front name e front back line h.1)

-- where one line comes up, it does, also where all is cut there
tells_one : (line : List ℕ) (c : Option Stop) (p a : Stage) → TellsLines (line ∷ []) c p a → a ≡ telling (line ∷ []) p
tells_one line None p a h = h
tells_one line (Some (Refused code)) p a h = absurd h
tells_one line (Some WireFailed) p a h = absurd h
tells_one line (Some (Cut fault)) p a h = by_front h.0 h.1 h.2 h.3 h.4
  where
    by_front : (front : List (List ℕ)) (l : List ℕ) (back : List (List ℕ)) → line ∷ [] ≡ front ++ l ∷ back → a ≡ telling (front ++ l ∷ []) p → a ≡ telling (line ∷ []) p
    by_front [] l back same is =
        let lines : l ≡ line = cc in
        is ∙ ap (λ (x : List ℕ). telling (x ∷ []) p) lines
    by_front (x ∷ []) l back same is = absurd cc
    by_front (x ∷ y ∷ front) l back same is = absurd cc

module _ (name : Name) (e : EpId) (MayBegin : Type 0) (Fact : Option PlainSender → List Told → Type 0) (kept : IsKept name e MayBegin Fact) where
  -- it holds at a stage
  abbrev pub Holds : Stage → Type 0
  Holds p = Fact (sender_at name e p.senders) p.text

  abbrev KeepsFact : (Option Stop → Stage → Stage → Type 0) → Type 0
  KeepsFact P = Keeps Holds P

  -- where senders and text stay
  stays : (p a : Stage) → a.senders ≡ p.senders → a.text ≡ p.text → Holds p → Holds a
  stays p a senders text h = subst (λ (x : List Told). Fact (sender_at name e a.senders) x) (sym text) (subst (λ (x : List Sending). Fact (sender_at name e x) p.text) (sym senders) h)

  -- where the sender is known
  at_sender : (senders : List Sending) (text : List Told) (o : Option PlainSender) → sender_at name e senders ≡ o → Fact o text → Fact (sender_at name e senders) text
  at_sender senders text o is h = subst (λ (x : Option PlainSender). Fact x text) (sym is) h

  of_sender : (senders : List Sending) (text : List Told) (o : Option PlainSender) → sender_at name e senders ≡ o → Fact (sender_at name e senders) text → Fact o text
  of_sender senders text o is h = subst (λ (x : Option PlainSender). Fact x text) is h

  -- ---- other lines come up

  others : (s : Option PlainSender) (w : Parts) (lines : List (List ℕ)) (text : List Told) → AreOther name e lines → Fact s text → Fact s (text ++ told w lines)
  others s w [] text none h = subst (Fact s) (sym (append-nil text)) h
  others s w (line ∷ lines) text none h =
      let one : Told = record { world = w; line = line } in
      let more = kept.told_other s text one (λ moment ra. none.0 moment ra.0 ra.1) h in
      subst (Fact s) (append_assoc text (one ∷ []) (told w lines)) (others s w lines (text ++ one ∷ []) none.1 more)

  keeps_tells : (lines : List (List ℕ)) → AreOther name e lines → KeepsFact (TellsLines lines)
  keeps_tells lines none None p a h holds = subst Holds (sym h) (others (sender_at name e p.senders) p.world lines p.text none holds)
  keeps_tells lines none (Some (Refused code)) p a h holds = absurd h
  keeps_tells lines none (Some WireFailed) p a h holds = absurd h
  keeps_tells lines none (Some (Cut fault)) p a h holds =
      subst Holds (sym h.4) (others (sender_at name e p.senders) p.world (h.0 ++ h.1 ∷ []) p.text
      (AreOther_front name e h.0 h.2 h.1 (subst (AreOther name e) h.3 none)) holds)

  -- ---- a turn

  asked_holds : (now : ℕ) (shape : Shape) (s : Sending) (asked : PlainSender) (text : List Told) → IsAsked now shape s asked → Fact (Some s.sender) text → Fact (Some asked) text
  asked_holds now shape s asked text (inl h) holds = subst (λ (x : PlainSender). Fact (Some x) text) (sym h.1) holds
  asked_holds now shape s asked text (inr h) holds = subst (λ (x : PlainSender). Fact (Some x) text) (sym h.1) (kept.asked s.sender now 0 text holds)

  module _ (small : e.0 < 2 ^ 32) (other : Name) (f : EpId) where
    -- what another endpoint tells is another line
    not_its : (s : Sending) → sends_at other f s ≡ true → sends_at name e s ≡ false → (now : ℕ) (bytes : List ℕ) → AreOther name e (ra_line other f now bytes ∷ [])
    not_its s its fails now bytes = (
      λ past others same.
          let tells = ra_tells name other e f past now others bytes small same in
          let texts = is_of other f s its in
          both_ways (sends_at name e s) fails (is_then name e s (texts.0 ∙ tells.texts) (texts.1 ∙ tells.numbers)),
      tt,
    )

    -- ---- a turn of another endpoint

    due_other : (due : Bool) (place : ℕ) (s : Sending) (shape : Shape) (p b : Stage) → IsSenderAt other f p.senders place s → sends_at name e s ≡ false
        → IsDue place s shape due p b → Holds p → Holds b
    due_other true place s shape p b at fails h holds =
        subst Holds (sym h.after_is) (at_sender _ p.text _ (set_other name e other f p.senders place s at (sent p.world.moment (p.words 0) h.asked) (Some shape) fails) holds)
    due_other false place s shape p b at fails h holds =
        subst Holds (sym h.after_is) (at_sender _ p.text _ (set_other name e other f p.senders place s at h.asked s.shape fails) holds)

    line_other : (due : Bool) (s : Sending) → sends_at other f s ≡ true → sends_at name e s ≡ false → (now : ℕ) (bytes : List ℕ)
        → AreOther name e (line_if due (ra_line other f now bytes))
    line_other true s its fails now bytes = not_its s its fails now bytes
    line_other false s its fails now bytes = tt

    other_turn : (c : Option Stop) (p a : Stage) (h : IsTurn other f c p a) → sends_at name e h.sending ≡ false → Holds p → Holds a
    other_turn c p a h fails holds =
        let its = there_sends other f p.senders h.place h.sending h.is_at in
        keeps_tells _ (line_other h.due h.sending its fails p.world.moment (advert_bytes h.advert)) c h.between a h.ends
        (due_other h.due h.place h.sending _ p h.between h.is_at fails h.comes holds)

    -- ---- a turn of this endpoint

    asked_at : (place : ℕ) (s : Sending) (now : ℕ) (shape : Shape) (asked : PlainSender) (p : Stage) → IsSenderAt other f p.senders place s → sends_at name e s ≡ true
        → IsAsked now shape s asked → Holds p → Fact (Some asked) p.text
    asked_at place s now shape asked p at here is_asked holds =
        asked_holds now shape s asked p.text is_asked (of_sender p.senders p.text (Some s.sender) (was_this name e other f p.senders place s at here) holds)

    due_own : (due : Bool) (place : ℕ) (s : Sending) (shape : Shape) (c : Option Stop) (p b a : Stage) (bytes : List ℕ) → IsSenderAt other f p.senders place s → sends_at name e s ≡ true
        → IsDue place s shape due p b → TellsLines (line_if due (ra_line other f p.world.moment bytes)) c b a → Holds p → Holds a
    due_own true place s shape c p b a bytes at here h tells holds =
        let line : Told = record { world = p.world; line = ra_line other f p.world.moment bytes } in
        let in_time = leb-true h.asked.next p.world.moment (sym h.due_is) in
        let only : IsOnlyOf name e p.world.moment line = λ moment fits ra. (ra_tells name other e f moment p.world.moment ra.0 bytes small ra.1).moments fits in
        let sends = kept.sends h.asked p.world.moment (p.words 0) p.text line in_time only (asked_at place s p.world.moment shape h.asked p at here h.is_asked holds) in
        let there : Holds (telling (line.line ∷ []) (sending_now place s h.asked shape p)) =
        at_sender _ (p.text ++ line ∷ []) _ (set_this name e other f p.senders place s at here (sent p.world.moment (p.words 0) h.asked) (Some shape)) sends in
        subst Holds (sym (tells_one line.line c b a tells)) (subst (λ (x : Stage). Holds (telling (line.line ∷ []) x)) (sym h.after_is) there)
    due_own false place s shape c p b a bytes at here h tells holds =
        keeps_tells [] tt c b a tells (subst Holds (sym h.after_is)
        (at_sender _ p.text _ (set_this name e other f p.senders place s at here h.asked s.shape) (asked_at place s p.world.moment shape h.asked p at here h.is_asked holds)))

    own_turn : (c : Option Stop) (p a : Stage) (h : IsTurn other f c p a) → sends_at name e h.sending ≡ true → Holds p → Holds a
    own_turn c p a h here holds = due_own h.due h.place h.sending _ c p h.between a (advert_bytes h.advert) h.is_at here h.comes h.ends holds

    keeps_may_turn : KeepsFact (MayTurn other f)
    keeps_may_turn c p a (inl h) holds = subst Holds (sym h.2) holds
    keeps_may_turn c p a (inr h) holds = elim (cases_Bool (sends_at name e h.sending)) [
      | inl here ↦ own_turn c p a h here holds
      | inr fails ↦ other_turn c p a h fails holds
    ]

  keeps_turns : e.0 < 2 ^ 32 → (other : Name) → KeepsFact (Turns other)
  keeps_turns small other = keeps_at Holds (λ p. EachProcess (TurnEnds other) (sender_endpoints other p.senders))
      (λ p. keeps_each Holds (TurnEnds other) (λ f. keeps_then Holds Nothing (MayTurn other f) (keeps_nothing Holds) (keeps_may_turn small other f))
      (sender_endpoints other p.senders))

  -- ---- a solicitation

  answered : (other : Name) (f : EpId) (p a : Stage) → IsSolicited other f p a → Holds p → Holds a
  answered other f p a h holds =
      let now = solicited p.world.moment (p.words 0) h.sending.sender in
      subst Holds (sym h.after_is) (elim (cases_Bool (sends_at name e h.sending)) [
        | inl here ↦
            let was = of_sender p.senders p.text _ (was_this name e other f p.senders h.place h.sending h.is_at here) holds in
            at_sender _ p.text _ (set_this name e other f p.senders h.place h.sending h.is_at here now h.sending.shape)
            (kept.asked h.sending.sender p.world.moment (p.words 0) p.text was)
        | inr fails ↦ at_sender _ p.text _ (set_other name e other f p.senders h.place h.sending h.is_at now h.sending.shape fails) holds
      ])

  keeps_solicits : (other : Name) (f : EpId) → KeepsFact (Solicits other f)
  keeps_solicits other f c p a h holds = elim h.1 [
    | inl none ↦ subst Holds (sym none.1) holds
    | inr is ↦ answered other f p a is holds
  ]

  -- ---- senders end and begin

  out_or_not : (before after : List Sending) (text : List Told) → StaysOrNot name e before after → Fact (sender_at name e before) text → Fact (sender_at name e after) text
  out_or_not before after text h holds = at_sender after text _ h.1 (by_test h.0)
    where
      by_test : (b : Bool) → Fact (if b then sender_at name e before else None) text
      by_test true = holds
      by_test false = kept.ends (sender_at name e before) text holds

  begin_at : (other : Name) (f : EpId) → (BeginsSending name e (line.Radv other f) → MayBegin) → (p : Stage) → Holds p → Holds (starting other f p)
  begin_at other f may p holds =
      let new : Sending = record { name = other; endpoint = f; sender = started_sender p.world.moment; shape = None } in
      elim (cases_Bool (sends_at name e new)) [
        | inl here ↦
            let its = is_of name e new here in
            at_sender _ p.text _ (with_this_one name e new p.senders here)
            (kept.begins (may (its.0, λ i. record { 0 = its.1 i })) (sender_at name e p.senders) p.world.moment p.text holds)
        | inr fails ↦ at_sender _ p.text _ (with_other name e new p.senders fails) holds
      ]

  pub invariant : e.0 < 2 ^ 32 → IsInvariant Holds (λ l. BeginsSending name e l → MayBegin)
  invariant small = record {
    stays = stays;
    tells = λ lines others. keeps_tells lines (others_of_kind name e lines others);
    turns = keeps_turns small;
    solicits = keeps_solicits;
    ended_sending = λ other f p holds. out_or_not p.senders _ p.text (without_one name e other f p.senders) holds;
    ending_all = λ other p holds. out_or_not p.senders _ p.text (without_all name e other p.senders) holds;
    starting = begin_at;
  }
