-- The sender of an endpoint, where senders are changed, added and left out.
use Rattle.hn_base.proofs.Names.{◌≡◌, ◌∙◌, ℕ, Bool, true, false, not, List, filter, Option, None, Some, refl, sym, ap, inl, inr, ◌==◌, ◌&&◌, if◌then◌else◌, find, nat_le, option_map, bytes_eq}
use Rattle.hn_base.proofs.Names.{cases_Bool, both_ways, not-false, and_parts, and_from, eqb-true, eq-eqb, leb-true, leb-false, lt-ltb, le-ltb, position-Some, get_or_from_slice_get, bytes_eq-Decides}
use Rattle.hn_base.proofs.Names.{name_text}
use Rattle.hn_spacing.proofs.Names.{position, slice_set, EpId, Name, PlainSender, Sending, Shape, sends_at, IsSenderAt}
use Rattle.std.specs.Prelude.{nat_lt}
use Rattle.hn_senders.specs.Senders.{sender_number, is_sender_of, without_sender, without_senders, with_sender}
use Rattle.hn_spacing.proofs.FirstThatPasses.{find-filter, find-write_failing, find-first, find-write_first, find-placed, find-placed_first}

-- the sender of an endpoint, if it sends
abbrev pub sender_at : Name → EpId → List Sending → Option PlainSender
sender_at name e senders = option_map (λ s. s.sender) (find (sends_at name e) senders)

-- ---- of what endpoint a sender is

pub is_of : (name : Name) (e : EpId) (s : Sending) → sends_at name e s ≡ true → (name_text s.name ≡ name_text name) × (s.endpoint.0 ≡ e.0)
is_of name e s h =
    let both = and_parts (is_sender_of name s) (s.endpoint.0 == e.0) h in
    ((bytes_eq-Decides (name_text s.name) (name_text name)).0 both.0, eqb-true s.endpoint.0 e.0 both.1)

pub is_then : (name : Name) (e : EpId) (s : Sending) → name_text s.name ≡ name_text name → s.endpoint.0 ≡ e.0 → sends_at name e s ≡ true
is_then name e s texts numbers =
    and_from (is_sender_of name s) (s.endpoint.0 == e.0) ((bytes_eq-Decides (name_text s.name) (name_text name)).1 texts) (eq-eqb s.endpoint.0 e.0 numbers)

pub there_sends : (name : Name) (e : EpId) (senders : List Sending) (place : ℕ) (s : Sending) → IsSenderAt name e senders place s → sends_at name e s ≡ true
there_sends name e senders place s at =
    sym (ap (sends_at name e) (get_or_from_slice_get senders place s s at.is_there)) ∙ (position-Some (sends_at name e) senders place s at.is_first).1

-- ---- the sender at a place is another one

module _ (name : Name) (e : EpId) (other : Name) (f : EpId) (senders : List Sending) (place : ℕ) (s : Sending) (at : IsSenderAt other f senders place s) where
  -- of another endpoint
  pub set_other : (now : PlainSender) (shape : Option Shape) → sends_at name e s ≡ false
      → sender_at name e (slice_set senders place (record s { sender = now; shape = shape })) ≡ sender_at name e senders
  set_other now shape fails = ap (option_map (λ s. s.sender)) (find-write_failing (sends_at name e) senders place s (record s { sender = now; shape = shape }) at.is_there fails fails)

  module _ (here : sends_at name e s ≡ true) where
    first_of_it : position (sends_at name e) senders ≡ Some place
    first_of_it =
        let own = is_of name e s here in
        let its = is_of other f s (there_sends other f senders place s at) in
        let texts : name_text name ≡ name_text other = sym own.0 ∙ its.0 in
        let numbers : e.0 ≡ f.0 = sym own.1 ∙ its.1 in
        (λ i. position (λ x. bytes_eq (name_text x.name) (texts i) && (x.endpoint.0 == numbers i)) senders) ∙ at.is_first

    pub was_this : sender_at name e senders ≡ Some s.sender
    was_this = ap (option_map (λ s. s.sender)) (find-first (sends_at name e) senders place s first_of_it at.is_there)

    pub set_this : (now : PlainSender) (shape : Option Shape) → sender_at name e (slice_set senders place (record s { sender = now; shape = shape })) ≡ Some now
    set_this now shape = ap (option_map (λ s. s.sender)) (find-write_first (sends_at name e) senders place (record s { sender = now; shape = shape }) first_of_it here)

-- ---- senders are left out

-- it is left out, or not
abbrev pub StaysOrNot : Name → EpId → List Sending → List Sending → Type 0
StaysOrNot name e before after = (b : Bool) × (sender_at name e after ≡ (if b then sender_at name e before else None))

choice_out : (b : Bool) (o : Option Sending) → option_map (λ s. s.sender) (if b then o else None) ≡ (if b then option_map (λ s. s.sender) o else None)
choice_out true o = refl
choice_out false o = refl

by_filter : (name : Name) (e : EpId) (senders : List Sending) (q : Sending → Bool) (b : Bool) → ((s : Sending) → sends_at name e s ≡ true → q s ≡ b)
    → StaysOrNot name e senders (filter q senders)
by_filter name e senders q b same =
    (b, ap (option_map (λ s. s.sender)) (find-filter (sends_at name e) q b same senders) ∙ choice_out b (find (sends_at name e) senders))

-- whether it is another endpoint
abbrev is_other : Name → EpId → Name → EpId → Bool
is_other name e other f = not (bytes_eq (name_text name) (name_text other) && (e.0 == f.0))

told_apart : (name : Name) (e : EpId) (other : Name) (f : EpId) (s : Sending) → sends_at name e s ≡ true → not (sends_at other f s) ≡ is_other name e other f
told_apart name e other f s here =
    let own = is_of name e s here in
    λ i. not (bytes_eq (own.0 i) (name_text other) && (own.1 i == f.0))

pub without_one : (name : Name) (e : EpId) (other : Name) (f : EpId) (senders : List Sending) → StaysOrNot name e senders (without_sender other f senders)
without_one name e other f senders = by_filter name e senders (λ s. not (sends_at other f s)) (is_other name e other f) (told_apart name e other f)

pub without_all : (name : Name) (e : EpId) (other : Name) (senders : List Sending) → StaysOrNot name e senders (without_senders other senders)
without_all name e other senders =
    by_filter name e senders (λ s. not (is_sender_of other s)) (not (bytes_eq (name_text name) (name_text other)))
    (λ s here i. not (bytes_eq ((is_of name e s here).0 i) (name_text other)))

-- ---- a sender begins

none_either : (b : Bool) (o : Option Sending) → o ≡ None → (if b then o else None) ≡ None
none_either true o none = none
none_either false o none = refl

above_or_not : (a b : ℕ) → nat_lt b a ≡ not (nat_le a b)
above_or_not a b = elim (cases_Bool (nat_le a b)) [
  | inl below ↦ le-ltb b a (leb-true a b below) ∙ ap not (sym below)
  | inr above ↦ lt-ltb b a (leb-false a b above) ∙ ap not (sym above)
]

module _ (name : Name) (e : EpId) (s : Sending) (senders : List Sending) where
  -- those that send at the endpoint are all before its number, or all after
  front : (t : Sending) → sends_at name e t ≡ true → nat_le (sender_number t) (sender_number s) ≡ nat_le e.0 s.endpoint.0
  front t here = ap (λ (n : ℕ). nat_le n s.endpoint.0) (is_of name e t here).1

  back : (t : Sending) → sends_at name e t ≡ true → nat_lt (sender_number s) (sender_number t) ≡ not (nat_le e.0 s.endpoint.0)
  back t here = ap (λ (n : ℕ). nat_lt s.endpoint.0 n) (is_of name e t here).1 ∙ above_or_not e.0 s.endpoint.0

  it_sends : is_other name e s.name s.endpoint ≡ false → sends_at name e s ≡ true
  it_sends same =
      let both = and_parts (bytes_eq (name_text name) (name_text s.name)) (e.0 == s.endpoint.0) (not-false _ same) in
      is_then name e s (sym ((bytes_eq-Decides (name_text name) (name_text s.name)).0 both.0)) (sym (eqb-true e.0 s.endpoint.0 both.1))

  -- at another endpoint
  pub with_other : sends_at name e s ≡ false → sender_at name e (with_sender s senders) ≡ sender_at name e senders
  with_other fails =
      let stays : find (sends_at name e) (without_sender s.name s.endpoint senders) ≡ find (sends_at name e) senders = elim (cases_Bool (is_other name e s.name s.endpoint)) [
        | inl other ↦ find-filter (sends_at name e) (λ t. not (sends_at s.name s.endpoint t)) true (λ t here. told_apart name e s.name s.endpoint t here ∙ other) senders
        | inr same ↦ absurd (both_ways (sends_at name e s) fails (it_sends same))
      ] in
      ap (option_map (λ s. s.sender)) (find-placed (sends_at name e) (λ t. nat_le (sender_number t) (sender_number s)) (λ t. nat_lt (sender_number s) (sender_number t))
      (nat_le e.0 s.endpoint.0) front back (without_sender s.name s.endpoint senders) s fails ∙ stays)

  -- at this endpoint, anew if it sends
  pub with_this_one : sends_at name e s ≡ true → sender_at name e (with_sender s senders) ≡ Some s.sender
  with_this_one here =
      let own = is_of name e s here in
      let others = without_sender s.name s.endpoint senders in
      let texts = (bytes_eq-Decides (name_text name) (name_text s.name)).1 (sym own.0) in
      let numbers = eq-eqb e.0 s.endpoint.0 (sym own.1) in
      let same : is_other name e s.name s.endpoint ≡ false = ap not (and_from (bytes_eq (name_text name) (name_text s.name)) (e.0 == s.endpoint.0) texts numbers) in
      let gone : find (sends_at name e) others ≡ None =
      find-filter (sends_at name e) (λ t. not (sends_at s.name s.endpoint t)) false (λ t sends. told_apart name e s.name s.endpoint t sends ∙ same) senders in
      let gone_before : find (sends_at name e) (filter (λ t. nat_le (sender_number t) (sender_number s)) others) ≡ None =
      find-filter (sends_at name e) (λ t. nat_le (sender_number t) (sender_number s)) (nat_le e.0 s.endpoint.0) front others ∙ none_either (nat_le e.0 s.endpoint.0) _ gone in
      ap (option_map (λ s. s.sender)) (find-placed_first (sends_at name e) (λ t. nat_le (sender_number t) (sender_number s))
      (λ t. nat_lt (sender_number s) (sender_number t)) others s gone_before here)
