-- Lines have at most one play, and what of it was cut short has a front of its text.
use Rattle.hn_base.proofs.Names.{◌≡◌, ◌∙◌, ◌⊎◌, inl, inr, ℕ, List, [], ◌∷◌, ◌++◌, length, Option, None, Some, refl, sym, ap, subst, ⊤}
use Rattle.hn_lab.proofs.Names.{append-nil, IoFault, Failed, Line, End, Stop, Refused, WireFailed, Cut, IsKnownRoute, IsUnbroken, ResultsAreUnique, CutTextsAreFronts, LineEnds, LineSaid}
use Rattle.hn_lab.proofs.Names.{LinesDone, StopsAt, IsPlay, IsCut, IsCutPlay, Process, Nothing, ThenProcess, refused_line, Stage, TellsLines, Told}
use Rattle.std.proofs.lemmas.List.{same_from_push}
use Rattle.hn_base.proofs.FrontOfList.{same_parts}
use Rattle.hn_play.specs.declared.end.End.TheVariants as end
use Rattle.hn_lab.proofs.LawAlike.{Grows, grows_none, grows_on, IsCutShort, Agree, AreOne, FirstIsShort, SecondIsShort, turned, both_done, apart, IsSole, sole_nothing, sole_then}
use Rattle.hn_lab.proofs.LawLines.{sole_line}
use Rattle.hn_lab.proofs.LawTells.{tells_agree, grows_tells}

-- ---- a line, and the line of text that says that it is refused

abbrev IsRefusal : Option Stop → Type 0
IsRefusal (Some (Refused code)) = ⊤
IsRefusal _ = ⊥

same_code : (c d : ℕ) → Some (Refused c) ≡ Some (Refused d) → c ≡ d
same_code c d same = cc

-- how a refused line ends, by how the telling of that line of text ends
abbrev said_end : ℕ → Option Stop → Option Stop
said_end code None = Some (Refused code)
said_end code (Some stop) = Some stop

short_said : (code : ℕ) (c : Option Stop) → IsCutShort c → IsCutShort (said_end code c)
short_said code None short = absurd short
short_said code (Some stop) short = short

module _ (number : ℕ) (l : Line) (sole : IsSole (LineEnds l)) where
  -- it ends in another way than by a refusal; or it is refused, and that is told
  data Said (c : Option Stop) (p a : Stage) : Type 0 where
    Plainly : ¬ IsRefusal c → LineEnds l c p a → Said c p a
    Refusing : (code : ℕ) (told : Option Stop) (refused : Stage) → LineEnds l (Some (Refused code)) p refused
        → TellsLines (refused_line number code ∷ []) told refused a → c ≡ said_end code told → Said c p a

  said : (c : Option Stop) (p a : Stage) → LineSaid number l c p a → Said c p a
  said None p a h = Plainly (λ refusal. refusal) h
  said (Some (Refused code)) p a h = Refusing code None h.0 h.1 h.2 refl
  said (Some WireFailed) p a h = Plainly (λ refusal. refusal) h
  said (Some (Cut fault)) p a (inl h) = Plainly (λ refusal. refusal) h
  said (Some (Cut fault)) p a (inr h) = Refusing h.0 (Some (Cut fault)) h.1 h.2 h.3 refl

  -- one is refused, and the other ends otherwise: that was cut short
  plain_or_refusing : (c d told : Option Stop) (code : ℕ) (p a x b : Stage) → IsKnownRoute p.route → ¬ IsRefusal c → LineEnds l c p a
      → LineEnds l (Some (Refused code)) p x → TellsLines (refused_line number code ∷ []) told x b → Agree c d a b
  plain_or_refusing c d told code p a x b known plain h refused tells = by_line (sole.one c (Some (Refused code)) p a x known h refused)
    where
      by_line : Agree c (Some (Refused code)) a x → Agree c d a b
      by_line (AreOne ends stages) = absurd (plain (subst IsRefusal (sym ends) tt))
      by_line (FirstIsShort short grows) = FirstIsShort short (grows_on a x b grows (grows_tells (refused_line number code ∷ []) told x b tells))
      by_line (SecondIsShort short grows) = absurd short

  -- both are refused
  both_refusing : (c d t u : Option Stop) (code other : ℕ) (p a x y b : Stage) → IsKnownRoute p.route
      → LineEnds l (Some (Refused code)) p x → LineEnds l (Some (Refused other)) p y
      → TellsLines (refused_line number code ∷ []) t x a → TellsLines (refused_line number other ∷ []) u y b
      → c ≡ said_end code t → d ≡ said_end other u → Agree c d a b
  both_refusing c d t u code other p a x y b known h k tells tells_too c_is d_is = by_line (sole.one (Some (Refused code)) (Some (Refused other)) p x y known h k)
    where
      by_text : code ≡ other → Agree t u a b → Agree c d a b
      by_text codes (AreOne ends stages) = AreOne (c_is ∙ (λ i. said_end (codes i) (ends i)) ∙ sym d_is) stages
      by_text codes (FirstIsShort short grows) = FirstIsShort (subst IsCutShort (sym c_is) (short_said code t short)) grows
      by_text codes (SecondIsShort short grows) = SecondIsShort (subst IsCutShort (sym d_is) (short_said other u short)) grows

      by_line : Agree (Some (Refused code)) (Some (Refused other)) x y → Agree c d a b
      by_line (AreOne ends stages) =
          let codes = same_code code other ends in
          by_text codes (tells_agree (refused_line number code ∷ []) t u x a b tells
          (subst (λ (s : Stage). TellsLines (refused_line number code ∷ []) u s b) (sym stages)
          (subst (λ (n : ℕ). TellsLines (refused_line number n ∷ []) u y b) (sym codes) tells_too)))
      by_line (FirstIsShort short grows) = absurd short
      by_line (SecondIsShort short grows) = absurd short

  said_agree : (c d : Option Stop) (p a b : Stage) → IsKnownRoute p.route → Said c p a → Said d p b → Agree c d a b
  said_agree c d p a b known (Plainly plain h) (Plainly plain_too k) = sole.one c d p a b known h k
  said_agree c d p a b known (Plainly plain h) (Refusing code told x k tells d_is) = plain_or_refusing c d told code p a x b known plain h k tells
  said_agree c d p a b known (Refusing code told x h tells c_is) (Plainly plain k) = turned d c b a (plain_or_refusing d c told code p b x a known plain k h tells)
  said_agree c d p a b known (Refusing code t x h tells c_is) (Refusing other u y k tells_too d_is) =
      both_refusing c d t u code other p a x y b known h k tells tells_too c_is d_is

  said_grows : (c : Option Stop) (p a : Stage) → Said c p a → Grows p a
  said_grows c p a (Plainly plain h) = sole.grows c p a h
  said_grows c p a (Refusing code told x h tells c_is) =
      grows_on p x a (sole.grows (Some (Refused code)) p x h) (grows_tells (refused_line number code ∷ []) told x a tells)

  pub sole_said : IsSole (LineSaid number l)
  sole_said = record {
    one = λ c d p a b known h k. said_agree c d p a b known (said c p a h) (said d p b k);
    keeps = λ p a known h. sole.keeps p a known h;
    grows = λ c p a h. said_grows c p a (said c p a h);
  }

-- ---- lines, as a process

-- lines are played, one after another
abbrev Plays : List (ℕ × Line) → Process
Plays [] stop p a = Nothing stop p a
Plays (l ∷ ls) stop p a = ThenProcess (LineSaid l.0 l.1) (Plays ls) stop p a

-- they are stopped at the line of this number
abbrev Halts : ℕ → Stop → List (ℕ × Line) → Stage → Stage → Type 0
Halts number stop [] p a = ⊥
Halts number stop (l ∷ ls) p a =
    ((number ≡ l.0) × LineSaid l.0 l.1 (Some stop) p a)
    ⊎ ((between : Stage) × LineSaid l.0 l.1 None p between × Halts number stop ls between a)

plays_done : (ls : List (ℕ × Line)) (p a : Stage) → LinesDone ls p a → Plays ls None p a
plays_done [] p a h = h
plays_done (l ∷ ls) p a h = (h.0, h.1, plays_done ls h.0 a h.2)

halts_after : (front rest : List (ℕ × Line)) (number : ℕ) (stop : Stop) (l : Line) (p m a : Stage) → LinesDone front p m → LineSaid number l (Some stop) m a
    → Halts number stop (front ++ (number, l) ∷ rest) p a
halts_after [] rest number stop l p m a done said = inl (refl, subst (λ (s : Stage). LineSaid number l (Some stop) s a) done said)
halts_after (k ∷ front) rest number stop l p m a done said = inr (done.0, done.1, halts_after front rest number stop l done.0 m a done.2 said)

halts : (number : ℕ) (stop : Stop) (ls : List (ℕ × Line)) (p a : Stage) → StopsAt number stop ls p a → Halts number stop ls p a
halts number stop ls p a h =
    subst (λ (all : List (ℕ × Line)). Halts number stop all p a) (sym h.lines_are) (halts_after h.front h.rest number stop h.line p h.between a h.done h.said)

plays_halted : (number : ℕ) (stop : Stop) (ls : List (ℕ × Line)) (p a : Stage) → Halts number stop ls p a → Plays ls (Some stop) p a
plays_halted number stop [] p a h = absurd h
plays_halted number stop (l ∷ ls) p a (inl h) = inl h.1
plays_halted number stop (l ∷ ls) p a (inr h) = inr (h.0, h.1, plays_halted number stop ls h.0 a h.2)

-- the end of a process in which a play ends
abbrev stop_of_end : End → Option Stop
stop_of_end end.Done = None
stop_of_end (end.Refused number code) = Some (Refused code)
stop_of_end end.WireFailed = Some WireFailed

plays : (ls : List (ℕ × Line)) (r : End) (p a : Stage) → IsPlay ls r p a → Plays ls (stop_of_end r) p a
plays ls end.Done p a h = plays_done ls p a h
plays ls (end.Refused number code) p a h = plays_halted number (Refused code) ls p a (halts number (Refused code) ls p a h)
plays ls end.WireFailed p a h = plays_halted h.0 WireFailed ls p a (halts h.0 WireFailed ls p a h.1)

plays_cut : (fault : IoFault) (ls : List (ℕ × Line)) (p a : Stage) → IsCut fault ls p a → Plays ls (Some (Cut fault)) p a
plays_cut fault ls p a h = plays_halted h.0 (Cut fault) ls p a (halts h.0 (Cut fault) ls p a h.1)

-- a play that the wire did not end was not cut short
not_short : (r : End) → IsUnbroken r → ¬ IsCutShort (stop_of_end r)
not_short end.Done unbroken = λ short. short
not_short (end.Refused number code) unbroken = λ short. short
not_short end.WireFailed unbroken = absurd unbroken

-- ---- two ends that agree

-- where neither was cut short, they are one
ones : (c d : Option Stop) (a b : Stage) → ¬ IsCutShort c → ¬ IsCutShort d → Agree c d a b → (c ≡ d) × (a ≡ b)
ones c d a b long long_too (AreOne ends stages) = (ends, stages)
ones c d a b long long_too (FirstIsShort short grows) = absurd (long short)
ones c d a b long long_too (SecondIsShort short grows) = absurd (long_too short)

-- where the second was not, the text of the first is a front
front_of : (c d : Option Stop) (a b : Stage) → ¬ IsCutShort d → Agree c d a b → Grows a b
front_of c d a b long (AreOne ends stages) = grows_none a b (ap (λ (s : Stage). s.text) (sym stages))
front_of c d a b long (FirstIsShort short grows) = grows
front_of c d a b long (SecondIsShort short grows) = absurd (long short)

-- one text is a front of the other
either_front : (c d : Option Stop) (a b : Stage) → Agree c d a b → Grows a b ⊎ Grows b a
either_front c d a b (AreOne ends stages) = inl (grows_none a b (ap (λ (s : Stage). s.text) (sym stages)))
either_front c d a b (FirstIsShort short grows) = inl grows
either_front c d a b (SecondIsShort short grows) = inr grows

-- texts of one length, of which one is a front of the other, are one
same_length : (a b : Stage) → length a.text ≡ length b.text → Grows a b → a.text ≡ b.text
same_length a b lengths grows = (same_parts a.text b.text grows.0 [] lengths (sym grows.1 ∙ sym (append-nil b.text))).0

module _ (unique : ResultsAreUnique) where
  line_said : (l : ℕ × Line) → IsSole (LineSaid l.0 l.1)
  line_said l = sole_said l.0 l.1 (sole_line unique l.1)

  sole_plays : (ls : List (ℕ × Line)) → IsSole (Plays ls)
  sole_plays [] = sole_nothing
  sole_plays (l ∷ ls) = sole_then (LineSaid l.0 l.1) (Plays ls) (line_said l) (sole_plays ls)

  -- a line is not refused and also done
  not_both : (l : ℕ × Line) (code : ℕ) (p a b : Stage) → IsKnownRoute p.route → LineSaid l.0 l.1 (Some (Refused code)) p a → LineSaid l.0 l.1 None p b → ⊥
  not_both l code p a b told h k = apart (Refused code) (ones (Some (Refused code)) None a b (λ short. short) (λ short. short) ((line_said l).one (Some (Refused code)) None p a b told h k)).0

  -- lines are refused at one number
  one_number : (n m c d : ℕ) (ls : List (ℕ × Line)) (p a b : Stage) → IsKnownRoute p.route → Halts n (Refused c) ls p a → Halts m (Refused d) ls p b → n ≡ m
  one_number n m c d [] p a b told h k = absurd h
  one_number n m c d (l ∷ ls) p a b told (inl h) (inl k) = h.0 ∙ sym k.0
  one_number n m c d (l ∷ ls) p a b told (inl h) (inr k) = absurd (not_both l c p a k.0 told h.1 k.1)
  one_number n m c d (l ∷ ls) p a b told (inr h) (inl k) = absurd (not_both l d p b h.0 told k.1 h.1)
  one_number n m c d (l ∷ ls) p a b told (inr h) (inr k) =
      let same = both_done h.0 k.0 ((line_said l).one None None p h.0 k.0 told h.1 k.1) in
      one_number n m c d ls h.0 a b ((line_said l).keeps p h.0 told h.1) h.2 (subst (λ (s : Stage). Halts m (Refused d) ls s b) (sym same) k.2)

  same_end : (ls : List (ℕ × Line)) (r q : End) (p a b : Stage) → IsKnownRoute p.route → IsUnbroken r → IsUnbroken q → IsPlay ls r p a → IsPlay ls q p b
      → stop_of_end r ≡ stop_of_end q → r ≡ q
  same_end ls end.Done end.Done p a b told u v h k same = refl
  same_end ls end.Done (end.Refused m d) p a b told u v h k same = absurd (apart (Refused d) (sym same))
  same_end ls (end.Refused n c) end.Done p a b told u v h k same = absurd (apart (Refused c) same)
  same_end ls (end.Refused n c) (end.Refused m d) p a b told u v h k same =
      let numbers = one_number n m c d ls p a b told (halts n (Refused c) ls p a h) (halts m (Refused d) ls p b k) in
      let codes = same_code c d same in
      λ i. end.Refused (numbers i) (codes i)
  same_end ls end.WireFailed q p a b told u v h k same = absurd u
  same_end ls r end.WireFailed p a b told u v h k same = absurd v

  -- ---- the laws

  pub one_play : (ls : List (ℕ × Line)) (r q : End) (p a b : Stage) → IsKnownRoute p.route → IsUnbroken r → IsUnbroken q → IsPlay ls r p a → IsPlay ls q p b → (r ≡ q) × (a ≡ b)
  one_play ls r q p a b told u v h k =
      let agree = (sole_plays ls).one (stop_of_end r) (stop_of_end q) p a b told (plays ls r p a h) (plays ls q p b k) in
      let one = ones (stop_of_end r) (stop_of_end q) a b (not_short r u) (not_short q v) agree in
      (same_end ls r q p a b told u v h k one.0, one.1)

  pub cut_fronts : CutTextsAreFronts
  cut_fronts = record {
    of_whole = λ fault ls r p a b told u h k.
        front_of (Some (Cut fault)) (stop_of_end r) a b (not_short r u)
        ((sole_plays ls).one (Some (Cut fault)) (stop_of_end r) p a b told (plays_cut fault ls p a h) (plays ls r p b k));
    of_cut = λ fault other ls p a b told h k.
        either_front (Some (Cut fault)) (Some (Cut other)) a b
        ((sole_plays ls).one (Some (Cut fault)) (Some (Cut other)) p a b told (plays_cut fault ls p a h) (plays_cut other ls p b k));
  }

  pub broken_front : (ls : List (ℕ × Line)) (r : End) (p a b : Stage) → IsKnownRoute p.route → IsUnbroken r → IsPlay ls end.WireFailed p a → IsPlay ls r p b → Grows a b
  broken_front ls r p a b told u h k =
      front_of (Some WireFailed) (stop_of_end r) a b (not_short r u)
      ((sole_plays ls).one (Some WireFailed) (stop_of_end r) p a b told (plays ls end.WireFailed p a h) (plays ls r p b k))

  -- the world of the last line of a text
  pub one_cut : (ls : List (ℕ × Line)) (p a b : Stage) → IsKnownRoute p.route → IsCutPlay ls p a → IsCutPlay ls p b → length a.text ≡ length b.text → (a.text ≡ b.text) × (a.world ≡ b.world)
  one_cut ls p a b told h k lengths =
      let texts = elim (cut_fronts.of_cut Failed Failed ls p a b told h.cut k.cut) as (λ _. a.text ≡ b.text) [
        | inl grows ↦ same_length a b lengths grows
        | inr grows ↦ sym (same_length b a (sym lengths) grows)
      ] in
      let lasts = same_from_push h.so_far k.so_far (record { world = a.world; line = h.line }) (record { world = b.world; line = k.line }) (sym h.text_is ∙ texts ∙ k.text_is) in
      (texts, ap (λ (t : Told). t.world) lasts.1)
