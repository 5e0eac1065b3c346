-- A sender is kept spaced, and so are its `ra` lines since a stage.
use Rattle.hn_base.proofs.Names.{◌≡◌, ◌∙◌, ◌+◌, ◌%◌, ◌^◌, ◌<◌, ◌≤◌, ℕ, Bool, true, false, List, [], ◌∷◌, ◌++◌, append_assoc, get_or, Option, None, Some, sym, ap, arith, ⊤, if◌then◌else◌, All-push}
use Rattle.hn_base.proofs.Names.{All-weaker, all_pairs_push}
use Rattle.hn_spacing.proofs.Names.{append-nil, EpId, Name, PlainSender, solicited, sent, Told, IsRaOf}
use Rattle.std.specs.Prelude.{IfSome}
use Rattle.std.specs.List.{All}
use Rattle.hn_radv.specs.Sender.{draws}
use Rattle.hn_spacing.specs.Spacing.{AreRasApart, AreRasSpaced}
use Rattle.hn_spacing.proofs.KeptBySenders.{IsKept, IsNoRaOf, IsOnlyOf}

-- ---- a sender

-- it sends 3,000 ms after it sent last, or later
abbrev pub IsAhead : Option ℕ → ℕ → Type 0
IsAhead last next = IfSome last (λ l. l + 3000 ≤ next)

abbrev pub IsSpaced : PlainSender → Type 0
IsSpaced s = IsAhead s.last s.next

asked_ahead : (count : ℕ) (last : Option ℕ) (next now word : ℕ) → IsAhead last next → IsSpaced (solicited now word (record { count = count; last = last; next = next }))
asked_ahead count None next now word h = tt
asked_ahead count (Some l) next now word h = omega arith

pub asked_spaced : (s : PlainSender) (now word : ℕ) → IsSpaced s → IsSpaced (solicited now word s)
asked_spaced s now word h = asked_ahead s.count s.last s.next now word h

later : (b : Bool) (now word : ℕ) → now + 3000 ≤ (if b then now + 198000 + word % 402001 else now + 16000)
later true now word = omega arith
later false now word = omega arith

pub sent_spaced : (s : PlainSender) (now word : ℕ) → IsSpaced (sent now word s)
sent_spaced s now word = later (draws s) now word

-- ---- from a play's beginning on, it is spaced

abbrev pub SpacedSender : Option PlainSender → List Told → Type 0
SpacedSender s text = IfSome s IsSpaced

pub spaced_is_kept : (name : Name) (e : EpId) → IsKept name e ⊤ SpacedSender
spaced_is_kept name e = record {
  told_other = λ s text t other h. h;
  ends = λ s text h. tt;
  asked = λ s now word text h. asked_spaced s now word h;
  sends = λ s now word text t due only h. sent_spaced s now word;
  begins = λ may s now text h. tt;
}

-- ---- since a stage, its lines are spaced

-- what was sent last was sent at this moment, or later
abbrev pub Reaches : Option ℕ → ℕ → Type 0
Reaches None moment = ⊥
Reaches (Some last) moment = moment ≤ last

in_time : (last : Option ℕ) (next moment now : ℕ) → Reaches last moment → IsAhead last next → next ≤ now → moment + 3000 ≤ now
in_time None next moment now reaches ahead due = absurd reaches
in_time (Some l) next moment now reaches ahead due = omega arith

module _ (name : Name) (e : EpId) (base : List Told) where
  -- each moment at which a line says that the endpoint sent
  abbrev pub AreReached : Told → Option ℕ → Type 0
  AreReached t last = (moment : ℕ) → moment < 2 ^ 64 → IsRaOf name e moment t → Reaches last moment

  -- its sender is spaced, and sent last at the last moment that the lines say
  pub record IsLast (new : List Told) (s : PlainSender) : Type 0 where
    pub spaced : IsSpaced s
    pub after : All (λ t. AreReached t s.last) new

  -- the lines that came up after this text are spaced
  pub record SpacedLines (s : Option PlainSender) (text : List Told) : Type 0 where
    pub new : List Told
    pub text_is : text ≡ base ++ new
    pub spaced : AreRasSpaced name e new
    pub sender : IfSome s (IsLast new)

  one_more : (text new : List Told) (t : Told) → text ≡ base ++ new → text ++ t ∷ [] ≡ base ++ (new ++ t ∷ [])
  one_more text new t is = ap (λ (x : List Told). x ++ t ∷ []) is ∙ append_assoc base new (t ∷ [])

  -- another line comes up
  last_stays : (s : Option PlainSender) (new : List Told) (t : Told) → IsNoRaOf name e t → IfSome s (IsLast new) → IfSome s (IsLast (new ++ t ∷ []))
  last_stays None new t other h = tt
  last_stays (Some s) new t other h = record {
    spaced = h.spaced;
    after = All-push (λ (u : Told). AreReached u s.last) new t h.after (λ moment fits ra. absurd (other moment ra));
  }

  told_other : (s : Option PlainSender) (text : List Told) (t : Told) → IsNoRaOf name e t → SpacedLines s text → SpacedLines s (text ++ t ∷ [])
  told_other s text t other h = record {
    new = h.new ++ t ∷ [];
    text_is = one_more text h.new t h.text_is;
    spaced = all_pairs_push (AreRasApart name e) h.new t h.spaced (λ k d within first second fits fits_too was ra. absurd (other second ra));
    sender = last_stays s h.new t other h.sender;
  }

  -- it sends
  module _ (s : PlainSender) (now word : ℕ) (text : List Told) (t : Told) (due : s.next ≤ now) (only : IsOnlyOf name e now t) (h : SpacedLines (Some s) text) where
    was_in_time : (u : Told) → AreReached u s.last → (moment : ℕ) → moment < 2 ^ 64 → IsRaOf name e moment u → moment + 3000 ≤ now
    was_in_time u reached moment fits ra = in_time s.last s.next moment now (reached moment fits ra) h.sender.spaced due

    apart : (u : Told) → AreReached u s.last → AreRasApart name e u t
    apart u reached first second fits fits_too was ra =
        let before = was_in_time u reached first fits was in
        let is = only second fits_too ra in
        omega arith

    it_sends : SpacedLines (Some (sent now word s)) (text ++ t ∷ [])
    it_sends = record {
      new = h.new ++ t ∷ [];
      text_is = one_more text h.new t h.text_is;
      spaced = all_pairs_push (AreRasApart name e) h.new t h.spaced (λ k d within. apart (get_or h.new k d) (h.sender.after k d within));
      sender = record {
        spaced = sent_spaced s now word;
        after = All-push (λ (u : Told). AreReached u (Some now)) h.new t
            (All-weaker (λ (u : Told). AreReached u s.last) (λ (u : Told). AreReached u (Some now))
            (λ u reached moment fits ra. let before = was_in_time u reached moment fits ra in omega arith) h.new h.sender.after)
            (λ moment fits ra. let is = only moment fits ra in omega arith);
      };
    }

  asked_too : (s : PlainSender) (now word : ℕ) (text : List Told) → SpacedLines (Some s) text → SpacedLines (Some (solicited now word s)) text
  asked_too s now word text h = record {
    new = h.new;
    text_is = h.text_is;
    spaced = h.spaced;
    sender = record { spaced = asked_spaced s now word h.sender.spaced; after = h.sender.after };
  }

  pub lines_are_kept : IsKept name e ⊥ SpacedLines
  lines_are_kept = record {
    told_other = told_other;
    ends = λ s text h. record { new = h.new; text_is = h.text_is; spaced = h.spaced; sender = tt };
    asked = asked_too;
    sends = it_sends;
    begins = λ may s now text h. absurd may;
  }

-- at first no line has come up since
pub none_since : (name : Name) (e : EpId) (s : Option PlainSender) (text : List Told) → SpacedSender s text → SpacedLines name e text s text
none_since name e s text h = record {
  new = [];
  text_is = sym (append-nil text);
  spaced = λ i j d before within. absurd (omega arith);
  sender = with_none s h;
}
  where
    with_none : (o : Option PlainSender) → SpacedSender o text → IfSome o (IsLast name e text [])
    with_none None spaced = tt
    with_none (Some x) spaced = record { spaced = spaced; after = λ k d within. absurd (omega arith) }
