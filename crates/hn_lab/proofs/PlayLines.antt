-- The lines of a script, one after another, and what is written of their text.
use Rattle.hn_base.proofs.Names.{◌≡◌, ◌∙◌, ℕ, List, [], ◌∷◌, ◌++◌, Option, None, Some, inl, inr, refl, sym, ap, subst, append_assoc, Appends}
use Rattle.hn_lab.proofs.Names.{append-nil, IoFault, Failed, NoMemory, Line, Stop, Refused, WireFailed, Cut, LineEnds, AppendsFront, IsCutText, LineSaid, LinesDone, StopsAt, IsPlay}
use Rattle.hn_lab.proofs.Names.{IsCut, IsCutPlay, refused_line, Stage, telling, Told, told, bytes_of, Gets, EndsAt}
use Rattle.hn_play.specs.declared.end.End.TheVariants as end
use Rattle.hn_play.specs.Carrying.{IsLeftAt}
use Rattle.hn_play.specs.Writing.{IsCutThere}
use Rattle.hn_play.proofs.RunWrites.{bytes_more, bytes_told, gets_more, last_of}
use Rattle.std.proofs.KnownBytes.{Appends-trans}
use Rattle.hn_streams.specs.Output.{AppendsPart}

-- ---- the lines that are done

-- lines are done, and their text is written
pub record SoFar (lines : List (ℕ × Line)) (before after : Stage) (h k : Option (List ℕ)) : Type 0 where
  pub done : LinesDone lines before after
  pub appends : Appends h k (bytes_of after.text)

lines_more : (ls : List (ℕ × Line)) (l : ℕ × Line) (p m a : Stage) → LinesDone ls p m → LineSaid l.0 l.1 None m a → LinesDone (ls ++ l ∷ []) p a
lines_more [] l p m a is said = (a, subst (λ (x : Stage). LineSaid l.0 l.1 None x a) is said, refl)
lines_more (k ∷ ls) l p m a h said = (h.0, h.1, lines_more ls l h.0 m a h.2 said)

-- the lines so far are done and their text is written, and there is a next line
pub record Reached (all ls : List (ℕ × Line)) (number : ℕ) (l : Line) (p m : Stage) (h j : Option (List ℕ)) : Type 0 where
  pub rest : List (ℕ × Line)
  pub lines_are : all ≡ ls ++ (number, l) ∷ rest
  pub so_far : SoFar ls p m h j

abbrev pub reached : (all ls left rest : List (ℕ × Line)) (number : ℕ) (l : Line) (p m : Stage) (h j : Option (List ℕ)) → all ≡ ls ++ left
    → left ≡ (number, l) ∷ rest → SoFar ls p m h j → Reached all ls number l p m h j
reached all ls left rest number l p m h j is next s = record {
  rest = rest;
  lines_are = is ∙ ap (λ (x : List (ℕ × Line)). ls ++ x) next;
  so_far = s;
}

-- ---- the next line

module _ (all ls : List (ℕ × Line)) (number : ℕ) (l : Line) (p m a : Stage) (h j k : Option (List ℕ)) (r : Reached all ls number l p m h j) where
  stops : (stop : Stop) (e : Stage) → LineSaid number l (Some stop) m e → StopsAt number stop all p e
  stops stop e said = record { front = ls; line = l; rest = r.rest; between = m; lines_are = r.lines_are; done = r.so_far.done; said = said }

  -- of the whole text
  whole : (stop : Option Stop) (e : EndsAt (LineEnds l) stop m a j k) → Gets stop e.at.world e.at.text h k
  whole stop e = subst (λ (text : List Told). Gets stop e.at.world text h k) (sym e.text_is) (gets_more stop e.at.world m.text e.more h j k r.so_far.appends e.gets)

  -- it is done
  pub so_far_more : (e : EndsAt (LineEnds l) None m a j k) → SoFar (ls ++ (number, l) ∷ []) p (record a { text = e.at.text }) h k
  so_far_more e =
      subst (λ (s : Stage). SoFar (ls ++ (number, l) ∷ []) p s h k) (last_of (LineEnds l) m a j k e)
      (record { done = lines_more ls (number, l) p m e.at r.so_far.done e.ended; appends = whole None e })

  -- the wire fails in it
  pub all_broken : EndsAt (LineEnds l) (Some WireFailed) m a j k → (after : Stage) × IsPlay all end.WireFailed p after × (after ≡ record a { text = after.text }) × Appends h k (bytes_of after.text)
  all_broken e = (e.at, (number, stops WireFailed e.at e.ended), e.is_last (λ same. absurd cc), whole (Some WireFailed) e)

  -- the sink fails in it
  pub cut_so : EndsAt (LineEnds l) (Some (Cut Failed)) m a j k → (after : Stage) × (written : List ℕ) × IsCutPlay all p after
      × (after ≡ record a { text = after.text }) × IsCutText after.text written × Appends h k written
  cut_so e =
      let cut : IsCutThere e.at.world e.at.text h k = whole (Some (Cut Failed)) e in (
        e.at,
        bytes_of cut.front ++ cut.part,
        record { cut = (number, stops (Cut Failed) e.at (inl e.ended)); so_far = cut.front; line = cut.line; text_is = cut.text_is },
        e.is_last (λ same. absurd cc),
        record { before = cut.front; last = record { world = e.at.world; line = cut.line }; part = cut.part; text_is = cut.text_is; in_part = cut.in_part; written_is = refl },
        cut.appends,
      )

  -- memory ends in it
  pub starved_so : EndsAt (LineEnds l) (Some (Cut NoMemory)) m a j k → (after : Stage) × IsCut NoMemory all p after × IsLeftAt after a.route
      × AppendsFront h k (bytes_of after.text)
  starved_so e = (e.at, (number, stops (Cut NoMemory) e.at (inl e.ended)), e.wire, whole (Some (Cut NoMemory)) e)

  -- it is refused, and the text says so, or is cut
  module _ (code : ℕ) (e : EndsAt (LineEnds l) (Some (Refused code)) m a j k) (o : Option (List ℕ)) where
    last : e.at ≡ record a { text = e.at.text }
    last = e.is_last (λ same. absurd cc)

    bytes_are : bytes_of (e.at.text ++ told e.at.world (refused_line number code ∷ [])) ≡ bytes_of e.at.text ++ refused_line number code
    bytes_are =
        bytes_more e.at.text (told e.at.world (refused_line number code ∷ []))
        ∙ ap (λ (x : List ℕ). bytes_of e.at.text ++ x) (bytes_told e.at.world (refused_line number code ∷ []) ∙ append-nil (refused_line number code))

    pub all_refused : Appends k o (refused_line number code) → (after : Stage) × IsPlay all (end.Refused number code) p after
        × (after ≡ record a { text = after.text }) × Appends h o (bytes_of after.text)
    all_refused written = (
      telling (refused_line number code ∷ []) e.at,
      stops (Refused code) (telling (refused_line number code ∷ []) e.at) (e.at, e.ended, refl),
      ap (λ (s : Stage). record s { text = e.at.text ++ told e.at.world (refused_line number code ∷ []) }) last,
      subst (Appends h o) (sym bytes_are) (Appends-trans h k o (bytes_of e.at.text) (refused_line number code) (whole (Some (Refused code)) e) written),
    )

    said_so : (fault : IoFault) → StopsAt number (Cut fault) all p (telling (refused_line number code ∷ []) e.at)
    said_so fault = stops (Cut fault) (telling (refused_line number code ∷ []) e.at) (inr (code, e.at, e.ended, ([], refused_line number code, [], refl, refl)))

    pub cut_refusal : AppendsPart k o (refused_line number code)
        → (after : Stage) × (written : List ℕ) × IsCutPlay all p after × (after ≡ record a { text = after.text }) × IsCutText after.text written × Appends h o written
    cut_refusal (part, in_part, written) = (
      telling (refused_line number code ∷ []) e.at,
      bytes_of e.at.text ++ part,
      record { cut = (number, said_so Failed); so_far = e.at.text; line = refused_line number code; text_is = refl },
      ap (λ (s : Stage). record s { text = e.at.text ++ told e.at.world (refused_line number code ∷ []) }) last,
      record { before = e.at.text; last = record { world = e.at.world; line = refused_line number code }; part = part; text_is = refl; in_part = in_part; written_is = refl },
      Appends-trans h k o (bytes_of e.at.text) part (whole (Some (Refused code)) e) written,
    )

    pub starved_refusal : AppendsPart k o (refused_line number code) → (after : Stage) × IsCut NoMemory all p after × IsLeftAt after a.route
        × AppendsFront h o (bytes_of after.text)
    starved_refusal (part, in_part, written) = (
      telling (refused_line number code ∷ []) e.at,
      (number, said_so NoMemory),
      inl (sym (ap (λ (s : Stage). s.route) last)),
      (
        bytes_of e.at.text ++ part,
        (
          in_part.missing,
          bytes_are ∙ ap (λ (x : List ℕ). bytes_of e.at.text ++ x) in_part.whole_is ∙ sym (append_assoc (bytes_of e.at.text) part in_part.missing),
        ),
        Appends-trans h k o (bytes_of e.at.text) part (whole (Some (Refused code)) e) written,
      ),
    )
