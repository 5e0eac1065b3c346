-- An endpoint that sends has its turn.
use Rattle.hn_base.proofs.Names.{◌≡◌, ◌∙◌, ◌+◌, ◌<◌, ℕ, suc, Bool, true, false, List, [], ◌∷◌, length, Option, None, Some, inl, inr, refl, sym, ap, subst, get_or, arith, if◌then◌else◌, option_map}
use Rattle.hn_base.proofs.Names.{position-Some, slice_get-get_or, name_text, Took}
use Rattle.hn_play.proofs.Names.{IsAdvert, advert_bytes, EpId, Name, NoMemory, WEvent, Member, member_named, Cut, Sending, Shape, Leaves, Follows, shape_of, ra_line, IsDue}
use Rattle.hn_play.proofs.Names.{TurnEnds, Stage, EndsAt}
use Rattle.hn_world.specs.declared.event.WEvent.TheVariants as event
use Rattle.hn_play.proofs.FirstWords.{taken}
use Rattle.hn_play.proofs.RunStops.{then_on, nothing_left}
use Rattle.hn_play.proofs.RunWrites.{starves}
use Rattle.hn_advert.specs.declared.advert.Advert.{Advert}
use Rattle.hn_play.specs.Process.{Nothing}
use Rattle.hn_play.specs.Sending.{IsAsked, line_if, with_this, HasNoTurn, MayTurn}
use Rattle.hn_radv.specs.Sender.{PlainSender, is_due, draws, sent}
use Rattle.hn_router.specs.Advertising.{IsAdvertAt}
use Rattle.hn_rules.specs.declared.state.State.{State}
use Rattle.hn_senders.specs.Senders.{sends_at, IsSenderAt}
use Rattle.std.specs.Prelude.{position}

-- ---- whether an advertisement is due

-- where one word is taken, it is the first to come, and those after it are to come then; where none is, all are
words_after : (draw : Bool) (words : List ℕ) (before after : ℕ → ℕ) → length words ≡ (if draw then 1 else 0) → Took (Some before) words (Some after)
    → (draw ≡ true → get_or words 0 0 ≡ before 0) × (after ≡ (if draw then (λ at. before (suc at)) else before))
words_after true words before after many took =
    let both = taken words before after took in
    let plus : (at : ℕ) → length words + at ≡ suc at = λ at. omega (arith, many) in
    (λ _. both.0 0 (omega (arith, many)), both.1 ∙ (λ i at. before (plus at i)))
words_after false words before after many took =
    let both = taken words before after took in
    let plus : (at : ℕ) → length words + at ≡ at = λ at. omega (arith, many) in
    (λ no. absurd cc, both.1 ∙ (λ i at. before (plus at i)))

-- where no word is taken, it does not matter which
sent_same : (now v w : ℕ) (s : PlainSender) → (draws s ≡ true → v ≡ w) → sent now v s ≡ sent now w s
sent_same now v w s same = by_test (draws s) refl
  where
    by_test : (b : Bool) → draws s ≡ b → sent now v s ≡ sent now w s
    by_test true is = ap (λ (x : ℕ). sent now x s) (same is)
    by_test false is = rw is refl

module _ (place : ℕ) (s : Sending) (shape : Shape) (asked : PlainSender) (now : ℕ) (r : Bool) (p a : Stage)
    (is_asked : IsAsked p.world.moment shape s asked) (due_is : r ≡ is_due now asked) (now_is : now ≡ p.world.moment) where
  -- it is not
  pub waits : (sender : PlainSender) → r ≡ false → sender ≡ asked → a ≡ with_this place (record s { sender = sender }) p → IsDue place s shape false p a
  waits sender not_due same after_is = record {
    asked = asked;
    is_asked = is_asked;
    due_is = sym not_due ∙ due_is ∙ ap (λ (n : ℕ). is_due n asked) now_is;
    after_is = after_is ∙ ap (λ (x : PlainSender). with_this place (record s { sender = x }) p) same;
  }

  -- it is
  pub goes : (sender : PlainSender) (next : ℕ → ℕ) → r ≡ true
      → (words : List ℕ) × (length words ≡ (if draws asked then 1 else 0)) × (sender ≡ sent now (get_or words 0 0) asked) × Took (Some p.words) words (Some next)
      → a ≡ record (with_this place (record s { sender = sender; shape = Some shape }) p) { words = next } → IsDue place s shape true p a
  goes sender next is_so (words, many, sender_is, took) after_is =
      let both = words_after (draws asked) words p.words next many took in
      let sends : sender ≡ sent p.world.moment (p.words 0) asked =
      sender_is ∙ ap (λ (n : ℕ). sent n (get_or words 0 0) asked) now_is ∙ sent_same p.world.moment (get_or words 0 0) (p.words 0) asked both.0 in
      record {
        asked = asked;
        is_asked = is_asked;
        due_is = sym is_so ∙ due_is ∙ ap (λ (n : ℕ). is_due n asked) now_is;
        after_is = after_is
            ∙ ap (λ (x : PlainSender). record (with_this place (record s { sender = x; shape = Some shape }) p) { words = next }) sends
            ∙ ap (λ (ws : ℕ → ℕ). record (with_this place (record s { sender = sent p.world.moment (p.words 0) asked; shape = Some shape }) p) { words = ws }) both.1;
      }

-- ---- a turn

-- the sender of an endpoint, where its place is found
pub found_at : (name : Name) (e : EpId) (senders : List Sending) (place : ℕ) → position (sends_at name e) senders ≡ Some place → (s : Sending) × IsSenderAt name e senders place s
found_at name e [] place is = absurd cc
found_at name e (s ∷ senders) place is =
    let at = position-Some (sends_at name e) (s ∷ senders) place s is in
    (get_or (s ∷ senders) place s, record { is_first = is; is_there = slice_get-get_or (s ∷ senders) place s at.0 })

pub place_within : (name : Name) (e : EpId) (senders : List Sending) (place : ℕ) → position (sends_at name e) senders ≡ Some place → place < length senders
place_within name e [] place is = absurd cc
place_within name e (s ∷ senders) place is = (position-Some (sends_at name e) (s ∷ senders) place s is).0

-- there is none
pub no_turn : (name : Name) (e : EpId) (p : Stage) (lines : List (List ℕ)) → HasNoTurn name e p → lines ≡ [] → Leaves (TurnEnds name e) lines p p
no_turn name e p lines none empty = nothing_left (TurnEnds name e) lines p p empty (p, refl, inl (none, refl, refl))

-- memory ended in it
pub turn_starves : (name : Name) (e : EpId) (p a : Stage) (h : Option (List ℕ)) → a.route ≡ p.route → EndsAt (TurnEnds name e) (Some (Cut NoMemory)) p a h h
turn_starves name e p a h stays = starves (TurnEnds name e) p a h (inl refl) stays

module _ (name : Name) (e : EpId) (router : State) (place : ℕ) (advert : Advert) (p : Stage)
    (found : (m : Member) × (member_named (name_text name) p.world ≡ Some m) × (router ≡ m.router)) (is_place : position (sends_at name e) p.senders ≡ Some place)
    (is_advert : IsAdvertAt router e advert) (is_read : IsAdvert (advert_bytes advert) advert) where
  -- it has its turn, and its line is left to tell, if it sends
  pub turn_left : (s : Sending) (due : Bool) (b : Stage) → IsSenderAt name e p.senders place s → IsDue place s (shape_of advert) due p b
      → Leaves (TurnEnds name e) (line_if due (ra_line name e p.world.moment (advert_bytes advert))) p b
  turn_left s due b is_at comes stop end tells =
      then_on Nothing (MayTurn name e) stop p p end refl (inr (record {
        member = found.0;
        is_member = found.1;
        place = place;
        sending = s;
        is_at = is_at;
        advert = advert;
        is_advert = subst (λ (x : State). IsAdvertAt x e advert) found.2 is_advert;
        is_read = is_read;
        due = due;
        between = b;
        comes = comes;
        ends = tells;
      }))

-- no router has the name
pub no_member : (found : Option Member) → None ≡ option_map (λ (m : Member). m.router) found → found ≡ None
no_member None is = refl
no_member (Some m) is = absurd cc

-- ---- senders begin and end

-- nothing follows an event that is none of these four
pub none_follows : (ev : WEvent) → ((name : Name) → ev ≡ event.Tick name → ⊥) → ((name : Name) (e : EpId) → ev ≡ event.Detach name e → ⊥) → ((name : Name) → ev ≡ event.Stop name → ⊥)
    → ((name : Name) → ev ≡ event.Start name → ⊥) → (q : Stage) → Follows ev None q q
none_follows (event.Tick name) tick detach stop start q = absurd (tick name refl)
none_follows (event.Detach name e) tick detach stop start q = absurd (detach name e refl)
none_follows (event.Stop name) tick detach stop start q = absurd (stop name refl)
none_follows (event.Start name) tick detach stop start q = absurd (start name refl)
none_follows _ tick detach stop start q = refl
