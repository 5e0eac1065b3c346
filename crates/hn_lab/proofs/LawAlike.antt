-- Two ends of one process agree: they are one, or one of them was cut short and its text is a front of the other's.
use Rattle.hn_base.proofs.Names.{◌≡◌, ◌∙◌, ◌⊎◌, inl, inr, ℕ, List, [], ◌∷◌, ◌++◌, append_assoc, Option, None, Some, refl, sym, ap, subst, ⊤, same_Some, none-some}
use Rattle.hn_lab.proofs.Names.{append-nil, Note, Stop, Refused, WireFailed, Cut, IsKnownRoute, Process, Nothing, Unless, ThenProcess, EachProcess, Stage, Told}

-- ---- texts that grow

-- the text of a stage is a front of that of another
abbrev pub Grows : Stage → Stage → Type 0
Grows p a = (more : List Told) × (a.text ≡ p.text ++ more)

pub grows_none : (p a : Stage) → a.text ≡ p.text → Grows p a
grows_none p a same = ([], same ∙ sym (append-nil p.text))

pub grows_on : (p m a : Stage) → Grows p m → Grows m a → Grows p a
grows_on p m a first second =
    (first.0 ++ second.0, second.1 ∙ ap (λ (x : List Told). x ++ second.0) first.1 ∙ append_assoc p.text first.0 second.0)

-- from the text as it was before
pub grows_from : (p a b : Stage) → a.text ≡ p.text → Grows p b → Grows a b
grows_from p a b same grows = (grows.0, grows.1 ∙ ap (λ (x : List Told). x ++ grows.0) (sym same))

-- ---- two ends

-- neither done nor refused: the wire failed, or all was cut
abbrev pub IsCutShort : Option Stop → Type 0
IsCutShort None = ⊥
IsCutShort (Some (Refused code)) = ⊥
IsCutShort (Some WireFailed) = ⊤
IsCutShort (Some (Cut fault)) = ⊤

-- two ends, each with the stage that it leads to
pub data Agree (c d : Option Stop) (a b : Stage) : Type 0 where
  AreOne : c ≡ d → a ≡ b → Agree c d a b
  FirstIsShort : IsCutShort c → Grows a b → Agree c d a b
  SecondIsShort : IsCutShort d → Grows b a → Agree c d a b

pub turned : (c d : Option Stop) (a b : Stage) → Agree c d a b → Agree d c b a
turned c d a b (AreOne ends stages) = AreOne (sym ends) (sym stages)
turned c d a b (FirstIsShort short grows) = SecondIsShort short grows
turned c d a b (SecondIsShort short grows) = FirstIsShort short grows

-- an end where it stops is none where it is done
pub apart : (c : Stop) → Some c ≡ None → ⊥
apart c same = none-some c (sym same)

-- where both are done, they are one
pub both_done : (a b : Stage) → Agree None None a b → a ≡ b
both_done a b (AreOne ends stages) = stages
both_done a b (FirstIsShort short grows) = absurd short
both_done a b (SecondIsShort short grows) = absurd short

-- ---- processes

-- wherever both begin over a route that is told, their ends agree
abbrev pub AreAlike : Process → Process → Type 0
AreAlike P Q = (c d : Option Stop) (p a b : Stage) → IsKnownRoute p.route → P c p a → Q d p b → Agree c d a b

-- the text only grows
abbrev pub OnlyGrows : Process → Type 0
OnlyGrows P = (c : Option Stop) (p a : Stage) → P c p a → Grows p a

-- what copies come to is known afterwards
abbrev pub KeepsTold : Process → Type 0
KeepsTold P = (p a : Stage) → IsKnownRoute p.route → P None p a → IsKnownRoute a.route

pub record IsSole (process : Process) : Type 0 where
  pub one : AreAlike process process
  pub keeps : KeepsTold process
  pub grows : OnlyGrows process

-- one that also notes something: where it is done, in one way
pub record IsSoleNoting (process : List Note → Process) : Type 0 where
  pub one : (m n : List Note) → AreAlike (process m) (process n)
  pub notes : (m n : List Note) (p a b : Stage) → IsKnownRoute p.route → process m None p a → process n None p b → m ≡ n
  pub keeps : (n : List Note) → KeepsTold (process n)
  pub grows : (n : List Note) → OnlyGrows (process n)

-- whatever it notes
pub sole_notes : (process : List Note → Process) → IsSoleNoting process → IsSole (λ stop p a. (notes : List Note) × process notes stop p a)
sole_notes process sole = record {
  one = λ c d p a b told h k. sole.one h.0 k.0 c d p a b told h.1 k.1;
  keeps = λ p a told h. sole.keeps h.0 p a told h.1;
  grows = λ c p a h. sole.grows h.0 c p a h.1;
}

-- by the stage before it
pub sole_at : (process : Stage → Process) → ((p : Stage) → IsSole (process p)) → IsSole (λ stop p a. process p stop p a)
sole_at process sole = record {
  one = λ c d p a b. (sole p).one c d p a b;
  keeps = λ p a. (sole p).keeps p a;
  grows = λ c p a. (sole p).grows c p a;
}

pub noting_at : (process : Stage → List Note → Process) → ((p : Stage) → IsSoleNoting (process p)) → IsSoleNoting (λ notes stop p a. process p notes stop p a)
noting_at process sole = record {
  one = λ m n c d p a b. (sole p).one m n c d p a b;
  notes = λ m n p a b. (sole p).notes m n p a b;
  keeps = λ n p a. (sole p).keeps n p a;
  grows = λ n c p a. (sole p).grows n c p a;
}

-- ---- processes that leave the text

-- one that leaves the text, and is refused by this code, if there is one; then nothing changes
pub record LeavesTheText (unless : Stage → Option ℕ) (process : Process) : Type 0 where
  pub accepted : (p a : Stage) → process None p a → unless p ≡ None
  pub refused : (code : ℕ) (p a : Stage) → process (Some (Refused code)) p a → (unless p ≡ Some code) × (a ≡ p)
  pub text : (c : Option Stop) (p a : Stage) → process c p a → a.text ≡ p.text

pub grows_still : (unless : Stage → Option ℕ) (P : Process) → LeavesTheText unless P → OnlyGrows P
grows_still unless P still c p a h = grows_none p a (still.text c p a h)

unlike : (code : ℕ) (o : Option ℕ) → o ≡ None → o ≡ Some code → ⊥
unlike code o none some = none-some code (sym none ∙ some)

-- two such are alike, if they are one where both are done
pub alike_still : (unless : Stage → Option ℕ) (P Q : Process) → LeavesTheText unless P → LeavesTheText unless Q
    → ((p a b : Stage) → P None p a → Q None p b → a ≡ b) → AreAlike P Q
alike_still unless P Q left right done c d p a b told = cases c d
  where
    -- one text is that of the other
    texts : (e f : Option Stop) → P e p a → Q f p b → a.text ≡ b.text
    texts e f h k = left.text e p a h ∙ sym (right.text f p b k)

    cases : (e f : Option Stop) → P e p a → Q f p b → Agree e f a b
    cases None None h k = AreOne refl (done p a b h k)
    cases None (Some (Refused f)) h k = absurd (unlike f (unless p) (left.accepted p a h) (right.refused f p b k).0)
    cases (Some (Refused e)) None h k = absurd (unlike e (unless p) (right.accepted p b k) (left.refused e p a h).0)
    cases (Some (Refused e)) (Some (Refused f)) h k =
        let first = left.refused e p a h in
        let second = right.refused f p b k in
        AreOne (ap (λ (x : ℕ). Some (Refused x)) (same_Some e f (sym first.0 ∙ second.0))) (first.1 ∙ sym second.1)
    cases (Some WireFailed) f h k = FirstIsShort tt (grows_none a b (sym (texts (Some WireFailed) f h k)))
    cases (Some (Cut fault)) f h k = FirstIsShort tt (grows_none a b (sym (texts (Some (Cut fault)) f h k)))
    cases None (Some WireFailed) h k = SecondIsShort tt (grows_none b a (texts None (Some WireFailed) h k))
    cases None (Some (Cut fault)) h k = SecondIsShort tt (grows_none b a (texts None (Some (Cut fault)) h k))
    cases (Some (Refused e)) (Some WireFailed) h k = SecondIsShort tt (grows_none b a (texts (Some (Refused e)) (Some WireFailed) h k))
    cases (Some (Refused e)) (Some (Cut fault)) h k = SecondIsShort tt (grows_none b a (texts (Some (Refused e)) (Some (Cut fault)) h k))

still_nothing : LeavesTheText (λ p. None) Nothing
still_nothing = record {
  accepted = λ p a h. refl;
  refused = λ code p a h. absurd h;
  text = text;
}
  where
    text : (c : Option Stop) (p a : Stage) → Nothing c p a → a.text ≡ p.text
    text None p a h = ap (λ (s : Stage). s.text) h
    text (Some (Refused code)) p a h = absurd h
    text (Some WireFailed) p a h = absurd h
    text (Some (Cut fault)) p a h = ap (λ (s : Stage). s.text) h

pub sole_nothing : IsSole Nothing
sole_nothing = record {
  one = alike_still (λ p. None) Nothing Nothing still_nothing still_nothing (λ p a b h k. h ∙ sym k);
  keeps = λ p a told h. subst (λ (s : Stage). IsKnownRoute s.route) (sym h) told;
  grows = grows_still (λ p. None) Nothing still_nothing;
}

still_unless : (unless : Option ℕ) → LeavesTheText (λ p. unless) (Unless unless)
still_unless unless = record {
  accepted = λ p a h. h.0;
  refused = λ code p a h. h;
  text = text;
}
  where
    text : (c : Option Stop) (p a : Stage) → Unless unless c p a → a.text ≡ p.text
    text None p a h = ap (λ (s : Stage). s.text) h.1
    text (Some (Refused code)) p a h = ap (λ (s : Stage). s.text) h.1
    text (Some WireFailed) p a h = absurd h
    text (Some (Cut fault)) p a h = ap (λ (s : Stage). s.text) h

pub sole_unless : (unless : Option ℕ) → IsSole (Unless unless)
sole_unless unless = record {
  one = alike_still (λ p. unless) (Unless unless) (Unless unless) (still_unless unless) (still_unless unless) (λ p a b h k. h.1 ∙ sym k.1);
  keeps = λ p a told h. subst (λ (s : Stage). IsKnownRoute s.route) (sym h.1) told;
  grows = grows_still (λ p. unless) (Unless unless) (still_unless unless);
}

-- ---- one, and then another

-- the first is done, and the second ends so
abbrev Joined : Process → Process → Process
Joined P R c p a = (between : Stage) × P None p between × R c between a

-- the first is stopped so
abbrev Fails : Process → Process
Fails P c p a = (stop : Stop) × (c ≡ Some stop) × P (Some stop) p a

parts_of : (P R : Process) (c : Option Stop) (p a : Stage) → ThenProcess P R c p a → Fails P c p a ⊎ Joined P R c p a
parts_of P R None p a h = inr h
parts_of P R (Some stop) p a (inl h) = inl (stop, refl, h)
parts_of P R (Some stop) p a (inr h) = inr h

-- one is stopped where the other goes on: it was cut short
stopped_or_on : (P Q S : Process) → AreAlike P Q → OnlyGrows S → (c d : Option Stop) (p a b : Stage) → IsKnownRoute p.route → Fails P c p a → Joined Q S d p b → Agree c d a b
stopped_or_on P Q S alike grows c d p a b told h k = by_first (alike (Some h.0) None p a k.0 told h.2 k.1)
  where
    by_first : Agree (Some h.0) None a k.0 → Agree c d a b
    by_first (AreOne ends stages) = absurd (apart h.0 ends)
    by_first (FirstIsShort short on) = FirstIsShort (subst IsCutShort (sym h.1) short) (grows_on a k.0 b on (grows d k.0 b k.2))
    by_first (SecondIsShort short on) = absurd short

pub alike_then : (P Q R S : Process) → AreAlike P Q → KeepsTold P → OnlyGrows R → OnlyGrows S
    → ((p x y : Stage) → IsKnownRoute p.route → P None p x → Q None p y → AreAlike R S) → AreAlike (ThenProcess P R) (ThenProcess Q S)
alike_then P Q R S alike keeps grows_r grows_s after c d p a b told h k = cases (parts_of P R c p a h) (parts_of Q S d p b k)
  where
    cases : Fails P c p a ⊎ Joined P R c p a → Fails Q d p b ⊎ Joined Q S d p b → Agree c d a b
    cases (inl x) (inl y) =
        subst (λ (e : Option Stop). Agree e d a b) (sym x.1)
        (subst (λ (e : Option Stop). Agree (Some x.0) e a b) (sym y.1) (alike (Some x.0) (Some y.0) p a b told x.2 y.2))
    cases (inl x) (inr y) = stopped_or_on P Q S alike grows_s c d p a b told x y
    cases (inr x) (inl y) =
        turned d c b a (stopped_or_on Q P R (λ e f q u v t l r. turned f e v u (alike f e q v u t r l)) grows_r d c p b a told y x)
    cases (inr x) (inr y) =
        let same = both_done x.0 y.0 (alike None None p x.0 y.0 told x.1 y.1) in
        after p x.0 y.0 told x.1 y.1 c d x.0 a b (keeps p x.0 told x.1) x.2 (subst (λ (s : Stage). S d s b) (sym same) y.2)

pub grows_then : (P R : Process) → OnlyGrows P → OnlyGrows R → OnlyGrows (ThenProcess P R)
grows_then P R grows_p grows_r c p a h = cases (parts_of P R c p a h)
  where
    cases : Fails P c p a ⊎ Joined P R c p a → Grows p a
    cases (inl x) = grows_p (Some x.0) p a x.2
    cases (inr x) = grows_on p x.0 a (grows_p None p x.0 x.1) (grows_r c x.0 a x.2)

pub keeps_then : (P R : Process) → KeepsTold P → KeepsTold R → KeepsTold (ThenProcess P R)
keeps_then P R keeps_p keeps_r p a told h = keeps_r h.0 a (keeps_p p h.0 told h.1) h.2

pub sole_then : (P R : Process) → IsSole P → IsSole R → IsSole (ThenProcess P R)
sole_then P R first second = record {
  one = alike_then P P R R first.one first.keeps second.grows second.grows (λ p x y told h k. second.one);
  keeps = keeps_then P R first.keeps second.keeps;
  grows = grows_then P R first.grows second.grows;
}

-- for each of a list
pub sole_each : {A : Type 0} (each : A → Process) → ((x : A) → IsSole (each x)) → (xs : List A) → IsSole (EachProcess each xs)
sole_each each sole [] = sole_nothing
sole_each each sole (x ∷ xs) = sole_then (each x) (EachProcess each xs) (sole x) (sole_each each sole xs)

-- then one that notes something
pub then_noting : (P : Process) (R : List Note → Process) → IsSole P → IsSoleNoting R → IsSoleNoting (λ notes. ThenProcess P (R notes))
then_noting P R first second = record {
  one = λ m n. alike_then P P (R m) (R n) first.one first.keeps (second.grows m) (second.grows n) (λ p x y told h k. second.one m n);
  notes = λ m n p a b told h k.
      let same = both_done h.0 k.0 (first.one None None p h.0 k.0 told h.1 k.1) in
      second.notes m n h.0 a b (first.keeps p h.0 told h.1) h.2 (subst (λ (s : Stage). R n None s b) (sym same) k.2);
  keeps = λ n. keeps_then P (R n) first.keeps (second.keeps n);
  grows = λ n. grows_then P (R n) first.grows (second.grows n);
}

-- what is noted, and then what follows from it
pub noting_then : (P : List Note → Process) (R : List Note → Process) → IsSoleNoting P → ((n : List Note) → IsSole (R n))
    → IsSole (λ stop p a. (notes : List Note) × ThenProcess (P notes) (R notes) stop p a)
noting_then P R first second = record {
  one = λ c d p a b told h k.
      alike_then (P h.0) (P k.0) (R h.0) (R k.0) (first.one h.0 k.0) (first.keeps h.0) (second h.0).grows (second k.0).grows
      (λ q x y t l r. subst (λ (n : List Note). AreAlike (R h.0) (R n)) (first.notes h.0 k.0 q x y t l r) (second h.0).one) c d p a b told h.1 k.1;
  keeps = λ p a told h. keeps_then (P h.0) (R h.0) (first.keeps h.0) (second h.0).keeps p a told h.1;
  grows = λ c p a h. grows_then (P h.0) (R h.0) (first.grows h.0) (second h.0).grows c p a h.1;
}
