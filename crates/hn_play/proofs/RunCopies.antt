-- How a copy that waits is treated.
use Rattle.hn_base.proofs.Names.{◌≡◌, ◌≢◌, ◌<◌, ◌%◌, ℕ, zero, suc, Bool, true, false, List, [], ◌∷◌, get_or, Option, Some, None, slice_get, nat_lt, sub-one, refl, subst, arith, ◌==◌, if◌then◌else◌}
use Rattle.hn_base.proofs.Names.{option_map, option_map_or, eqb-suc-zero, position-Some, same_Some, slice_get-get_or}
use Rattle.hn_play.proofs.Names.{MailCopy, Parts, copy_at, first_waiting, Stop, CopyEnds, TreatmentEnds, Stage}
use Rattle.hn_play.proofs.RunEvents.{same_stage}
use Rattle.hn_play.specs.Events.{drawn, is_lost}
use Rattle.hn_world.specs.Receivers.{is_away}

-- with a loss above 0 the first word is drawn
pub words_drawn : (loss : ℕ) (words next : ℕ → ℕ) → 0 < loss → Some next ≡ Some (λ place. words (suc place)) → next ≡ (if loss == 0 then words else (λ place. words (suc place)))
words_drawn zero words next above drew = absurd (omega arith)
words_drawn (suc n) words next above drew = rw (eqb-suc-zero n) (same_Some next (λ place. words (suc place)) drew)

-- the copy of a number
pub away_of : (w : Parts) (copy place : ℕ) (c : MailCopy) → copy ≡ suc place → slice_get w.copies place ≡ Some c → option_map_or (is_away w) (copy_at w copy) true ≡ is_away w c
away_of w copy place c same at = rw (same, eqb-suc-zero place, sub-one, at) refl

moved : (b : Bool) (p q : Stage) (next : ℕ → ℕ) → q.world ≡ p.world → q.loss ≡ p.loss → q.words ≡ (if b then p.words else next) → q.route ≡ p.route
    → q.senders ≡ p.senders → q.text ≡ p.text → q ≡ (if b then p else record p { words = next })
moved true p q next world loss words route senders text = same_stage p q world loss words route senders text
moved false p q next world loss words route senders text = same_stage (record p { words = next }) q world loss words route senders text

-- whether a copy is lost, and what is drawn for it
module _ (p q : Stage) (c : MailCopy) (lost : Bool) where
  pub when_away : is_away p.world c ≡ true → lost ≡ true → q ≡ p → (lost ≡ is_lost p c) × (q ≡ drawn p c)
  when_away away so stays = (rw away so, rw away stays)

  pub when_near : is_away p.world c ≡ false → q.world ≡ p.world → q.loss ≡ p.loss
      → q.words ≡ (if p.loss == 0 then p.words else (λ place. p.words (suc place))) → q.route ≡ p.route → q.senders ≡ p.senders → q.text ≡ p.text
      → lost ≡ nat_lt (p.words 0 % 100) p.loss → (lost ≡ is_lost p c) × (q ≡ drawn p c)
  when_near near world loss words route senders text is = (rw near is, rw near (moved (p.loss == 0) p q (λ place. p.words (suc place)) world loss words route senders text))

-- the first copy that waits is one
pub some_copy : (copies : List MailCopy) (place : ℕ) → first_waiting copies ≡ Some place → (c : MailCopy) × (slice_get copies place ≡ Some c)
some_copy [] place first = absurd cc
some_copy (x ∷ xs) place first =
    let found = position-Some (λ c. c.waiting) (x ∷ xs) place x first in
    (get_or (x ∷ xs) place x, slice_get-get_or (x ∷ xs) place x found.0)

-- there is a first copy that waits
pub some_waits : (o : Option ℕ) (copy : ℕ) → option_map suc o ≡ Some copy → o ≢ None
some_waits None copy is none = cc
some_waits (Some place) copy is none = cc

-- and none where no number is answered
pub none_waits : (o : Option ℕ) → option_map suc o ≡ None → o ≡ None
none_waits None is = refl
none_waits (Some place) is = absurd cc

-- what the treatment of the first copy that waits comes to
pub copy_ends : (p q : Stage) (place : ℕ) (c : MailCopy) (copy : ℕ) (lost : Bool) → first_waiting p.world.copies ≡ Some place
    → slice_get p.world.copies place ≡ Some c → copy ≡ suc place → (lost ≡ is_lost p c) × (q ≡ drawn p c)
    → (stop : Option Stop) (at : Stage) → TreatmentEnds lost copy stop q at → CopyEnds stop p at
copy_ends p q place c copy lost first is_copy same (lost_is, drew) stop at ends = record {
  place = place;
  copy = c;
  first = first;
  is_copy = is_copy;
  ends = subst (λ (k : ℕ). TreatmentEnds (is_lost p c) k stop (drawn p c) at) same
      (subst (λ (b : Bool). TreatmentEnds b copy stop (drawn p c) at) lost_is (subst (λ (s : Stage). TreatmentEnds lost copy stop s at) drew ends));
}
