-- What is done again and again, each time in one way, is done in one way.
use Rattle.hn_base.proofs.Names.{◌≡◌, ◌<◌, inl, inr, ℕ, zero, suc, Option, None, Some, refl, sym, subst, ◌∙◌, arith, cases_order}
use Rattle.hn_lab.proofs.Names.{Stop, IsKnownRoute, Process, Times, Until, Stage}
use Rattle.std.proofs.Math.Nat.{eq-or-lt_of_le}
use Rattle.hn_lab.proofs.LawAlike.{Grows, grows_none, grows_on, Agree, AreOne, FirstIsShort, SecondIsShort, turned, both_done, apart, IsSole}

module _ (HasMore : Stage → Type 0) (round : Process) (sole : IsSole round) where
  -- ---- so many rounds

  keeps_times : (n : ℕ) (p a : Stage) → IsKnownRoute p.route → Times HasMore round n p a → IsKnownRoute a.route
  keeps_times zero p a told h = subst (λ (s : Stage). IsKnownRoute s.route) (sym h) told
  keeps_times (suc n) p a told h = sole.keeps h.0 a (keeps_times n p h.0 told h.1) h.3

  grows_times : (n : ℕ) (p a : Stage) → Times HasMore round n p a → Grows p a
  grows_times zero p a h = subst (Grows p) (sym h) (grows_none p p refl)
  grows_times (suc n) p a h = grows_on p h.0 a (grows_times n p h.0 h.1) (sole.grows None h.0 a h.3)

  one_times : (n : ℕ) (p a b : Stage) → IsKnownRoute p.route → Times HasMore round n p a → Times HasMore round n p b → a ≡ b
  one_times zero p a b told h k = h ∙ sym k
  one_times (suc n) p a b told h k =
      let same = one_times n p h.0 k.0 told h.1 k.1 in
      both_done a b (sole.one None None h.0 a b (keeps_times n p h.0 told h.1) h.3 (subst (λ (s : Stage). round None s b) (sym same) k.3))

  -- more rounds lead through the stage of fewer: there is more to do, and from its next round on the text grows
  pub record LeadsThrough (n : ℕ) (p b : Stage) : Type 0 where
    pub there : Stage
    pub next : Stage
    pub times : Times HasMore round n p there
    pub more : HasMore there
    pub goes : round None there next
    pub grows : Grows next b

  through : (n m : ℕ) (p b : Stage) → n < m → Times HasMore round m p b → LeadsThrough n p b
  through n zero p b less h = absurd (omega arith)
  through n (suc m) p b less h = elim (eq-or-lt_of_le {n = n} {m = m} (omega arith)) [
    | inl same ↦ record {
      there = h.0;
      next = b;
      times = subst (λ (k : ℕ). Times HasMore round k p h.0) (sym same) h.1;
      more = h.2;
      goes = h.3;
      grows = grows_none b b refl;
    }
    | inr less' ↦
        let way = through n m p h.0 less' h.1 in
        record {
          there = way.there;
          next = way.next;
          times = way.times;
          more = way.more;
          goes = way.goes;
          grows = grows_on way.next h.0 b way.grows (sole.grows None h.0 b h.3);
        }
  ]

  -- ---- where it stops

  -- at a stage: nothing more is to do, or a round is stopped
  abbrev Stops : Process
  Stops None x a = (x ≡ a) × ¬ HasMore x
  Stops (Some stop) x a = HasMore x × round (Some stop) x a

  stops_grow : (c : Option Stop) (x a : Stage) → Stops c x a → Grows x a
  stops_grow None x a h = subst (Grows x) h.0 (grows_none x x refl)
  stops_grow (Some stop) x a h = sole.grows (Some stop) x a h.1

  stops_agree : (c d : Option Stop) (x a b : Stage) → IsKnownRoute x.route → Stops c x a → Stops d x b → Agree c d a b
  stops_agree None None x a b told h k = AreOne refl (sym h.0 ∙ k.0)
  stops_agree None (Some stop) x a b told h k = absurd (h.1 k.0)
  stops_agree (Some stop) None x a b told h k = absurd (k.1 h.0)
  stops_agree (Some stop) (Some other) x a b told h k = sole.one (Some stop) (Some other) x a b told h.1 k.1

  -- where it stops and also goes on, it was cut short
  stops_short : (c d : Option Stop) (x a y b : Stage) → IsKnownRoute x.route → Stops c x a → HasMore x → round None x y → Grows y b → Agree c d a b
  stops_short None d x a y b told h more goes on = absurd (h.1 more)
  stops_short (Some stop) d x a y b told h more goes on = by_round (sole.one (Some stop) None x a y told h.1 goes)
    where
      by_round : Agree (Some stop) None a y → Agree (Some stop) d a b
      by_round (AreOne ends stages) = absurd (apart stop ends)
      by_round (FirstIsShort short grows) = FirstIsShort short (grows_on a y b grows on)
      by_round (SecondIsShort short grows) = absurd short

  -- after so many rounds it stops
  pub record Comes (c : Option Stop) (p a : Stage) : Type 0 where
    pub rounds : ℕ
    pub last : Stage
    pub times : Times HasMore round rounds p last
    pub stops : Stops c last a

  comes : (c : Option Stop) (p a : Stage) → Until HasMore round c p a → Comes c p a
  comes None p a h = record { rounds = h.0; last = a; times = h.1; stops = (refl, h.2) }
  comes (Some stop) p a h = record { rounds = h.0; last = h.1; times = h.2; stops = (h.3, h.4) }

  sooner : (c d : Option Stop) (p a b : Stage) → IsKnownRoute p.route → (h : Comes c p a) (k : Comes d p b) → h.rounds < k.rounds → Agree c d a b
  sooner c d p a b told h k less =
      let way = through h.rounds k.rounds p k.last less k.times in
      let same = one_times h.rounds p way.there h.last told way.times h.times in
      stops_short c d h.last a way.next b (keeps_times h.rounds p h.last told h.times) h.stops
      (subst HasMore same way.more) (subst (λ (s : Stage). round None s way.next) same way.goes)
      (grows_on way.next k.last b way.grows (stops_grow d k.last b k.stops))

  together : (c d : Option Stop) (p a b : Stage) → IsKnownRoute p.route → (h : Comes c p a) (k : Comes d p b) → h.rounds ≡ k.rounds → Agree c d a b
  together c d p a b told h k same =
      let there = one_times k.rounds p h.last k.last told (subst (λ (n : ℕ). Times HasMore round n p h.last) same h.times) k.times in
      stops_agree c d h.last a b (keeps_times h.rounds p h.last told h.times) h.stops (subst (λ (s : Stage). Stops d s b) (sym there) k.stops)

  comes_agree : (c d : Option Stop) (p a b : Stage) → IsKnownRoute p.route → Comes c p a → Comes d p b → Agree c d a b
  comes_agree c d p a b told h k = elim (cases_order h.rounds k.rounds) [
    | inl same ↦ together c d p a b told h k same
    | inr (inl less) ↦ sooner c d p a b told h k less
    | inr (inr more) ↦ turned d c b a (sooner d c p b a told k h more)
  ]

  pub sole_until : IsSole (Until HasMore round)
  sole_until = record {
    one = λ c d p a b told h k. comes_agree c d p a b told (comes c p a h) (comes d p b k);
    keeps = λ p a told h. keeps_times h.0 p a told h.1;
    grows = λ c p a h. let way = comes c p a h in grows_on p way.last a (grows_times way.rounds p way.last way.times) (stops_grow c way.last a way.stops);
  }
