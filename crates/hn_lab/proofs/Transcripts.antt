-- By mail a script has one transcript, and what is written is a front of it.
use Rattle.hn_base.proofs.Names.{◌≡◌, ◌≢◌, ◌∙◌, ℕ, List, [], ◌∷◌, ◌++◌, append_assoc, Option, Some, refl, sym, ap, subst, inl, inr, arith, flat_map-append}
use Rattle.hn_lab.proofs.Names.{append-nil, some_then, Failed, NoMemory, Script, Parts, End, Done, ScriptHasAPlay, IsBrokenPlay, IsWholePlay, Plays, AtMostOnePlay, CutTextsAreFronts}
use Rattle.hn_lab.proofs.Names.{IsUnbroken, IsCutText, begun, IsPlay, Route, Stage, Mail, Told, bytes_of}
use Rattle.hn_script.specs.Laws.{AtMostOneScript, FaultExcludesScript}
use Rattle.hn_script.specs.Script.{IsScript}
use Rattle.hn_play.specs.declared.end.End.TheVariants.{Refused, WireFailed}
use Rattle.hn_lab.specs.Lab.{IsStarvedPlay, status_of}
use Rattle.hn_streams.specs.Output.{IsFrontOf}
use Rattle.hn_lab.specs.Transcripts.{DoneOrRefused, IsOfTranscript, IsTranscript, IsWrittenOf, LabIsOfTranscript, PlayIsOfTranscript, Transcript, TranscriptExists, TranscriptIsUnique}
use Rattle.hn_lab.specs.Transcripts.{WrittenIsOfTranscript}

-- ---- there is one, and no other

-- what a play comes to
abbrev transcript_of : End → Stage → Transcript
transcript_of end after = record { status = status_of end; world = after.world; text = bytes_of after.text }

pub transcript_exists : ScriptHasAPlay → TranscriptExists
transcript_exists exists script bytes is =
    some_then (exists script bytes is) (λ p play none. none (transcript_of p.end p.stage) (record { played = p; unbroken = play.0; play = play.1; gives = refl }))

pub transcript_is_unique : AtMostOnePlay → TranscriptIsUnique
transcript_is_unique one script a b x y =
    let same = one script.lines x.played.end y.played.end (begun Mail script.version) x.played.stage y.played.stage tt x.unbroken y.unbroken x.play y.play in
    x.gives ∙ (λ i. transcript_of (same.0 i) (same.1 i)) ∙ sym y.gives

pub done_or_refused : ScriptHasAPlay → DoneOrRefused
done_or_refused exists script bytes is not_done not_refused = exists script bytes is (λ p play. by_end p.end p.stage play.0 play.1)
  where
    by_end : (how : End) (a : Stage) → IsUnbroken how → IsPlay script.lines how (begun Mail script.version) a → ⊥
    by_end Done a unbroken play = not_done (record { told = tt; after = a; play = play })
    by_end (Refused number code) a unbroken play = not_refused (record { told = tt; line = number; code = code; after = a; play = play })
    by_end WireFailed a unbroken play = absurd unbroken

-- ---- fronts

front_on : (x y z : List ℕ) → IsFrontOf x y → IsFrontOf y z → IsFrontOf x z
front_on x y z (back, is) (more, also) = (back ++ more, also ∙ ap (λ (front : List ℕ). front ++ more) is ∙ append_assoc x back more)

front_whole : (x y : List ℕ) → x ≡ y → IsFrontOf x y
front_whole x y same = ([], sym same ∙ sym (append-nil x))

front_of_text : (text rest : List Told) (whole : List Told) → whole ≡ text ++ rest → IsFrontOf (bytes_of text) (bytes_of whole)
front_of_text text rest whole is = (bytes_of rest, ap bytes_of is ∙ flat_map-append (λ (t : Told). t.line) text rest)

front_of_cut : (text : List Told) (written : List ℕ) → IsCutText text written → IsFrontOf written (bytes_of text)
front_of_cut text written cut = (
  cut.in_part.missing ++ [],
  ap bytes_of cut.text_is ∙ flat_map-append (λ (t : Told). t.line) cut.before (cut.last ∷ [])
      ∙ ap (λ (line : List ℕ). bytes_of cut.before ++ (line ++ [])) cut.in_part.whole_is
      ∙ ap (λ (rest : List ℕ). bytes_of cut.before ++ rest) (append_assoc cut.part cut.in_part.missing [])
      ∙ sym (append_assoc (bytes_of cut.before) cut.part (cut.in_part.missing ++ []))
      ∙ ap (λ (front : List ℕ). front ++ (cut.in_part.missing ++ [])) (sym cut.written_is),
)

-- ---- what is written

module _ (one : AtMostOnePlay) (fronts : CutTextsAreFronts) (last : Route) (script : Script) (status : ℕ) (world : Option Parts) (written : List ℕ) (t : Transcript)
    (unwired : status ≢ 5) (is : IsTranscript script t) where
  unbroken_end : (how : End) → status ≡ status_of how → IsUnbroken how
  unbroken_end Done same = tt
  unbroken_end (Refused number code) same = tt
  unbroken_end WireFailed same = unwired same

  text_is : bytes_of is.played.stage.text ≡ t.text
  text_is = sym (ap (λ (x : Transcript). x.text) is.gives)

  of_whole : IsWholePlay Mail last script status world written → IsWrittenOf t status world written
  of_whole play =
      let same = one script.lines play.end is.played.end (begun Mail script.version) play.after is.played.stage tt (unbroken_end play.end play.status_is) is.unbroken play.play is.play in
      let gives : transcript_of play.end play.after ≡ t = (λ i. transcript_of (same.0 i) (same.1 i)) ∙ sym is.gives in
      let status_same : status ≡ t.status = play.status_is ∙ ap (λ (x : Transcript). x.status) gives in
      let world_same : world ≡ Some t.world = play.world_is ∙ ap (λ (x : Transcript). Some x.world) gives in
      let written_same : written ≡ t.text = play.written_is ∙ ap (λ (x : Transcript). x.text) gives in
      record { front = front_whole written t.text written_same; whole = λ _. (status_same, world_same, written_same) }

  not_whole : status ≢ 0 → status ≢ 2 → IsFrontOf written t.text → IsWrittenOf t status world written
  not_whole not_done not_refused front = record { front = front; whole = λ ended. absurd (elim ended [ inl done ↦ not_done done | inr refused ↦ not_refused refused ]) }

  of_broken : IsBrokenPlay Mail last script status world written → IsWrittenOf t status world written
  of_broken play =
      let (rest, on) = fronts.of_whole Failed script.lines is.played.end (begun Mail script.version) play.after is.played.stage tt is.unbroken play.play.cut is.play in
      let is_so = play.status_is in
      not_whole (λ done. omega (arith, is_so, done)) (λ refused. omega (arith, is_so, refused))
      (front_on written (bytes_of play.after.text) t.text (front_of_cut play.after.text written play.written_is)
      (subst (IsFrontOf (bytes_of play.after.text)) text_is (front_of_text play.after.text rest is.played.stage.text on)))

  of_starved : IsStarvedPlay Mail last script status world written → IsWrittenOf t status world written
  of_starved play =
      let (rest, on) = fronts.of_whole NoMemory script.lines is.played.end (begun Mail script.version) play.after is.played.stage tt is.unbroken play.play is.play in
      let is_so = play.status_is in
      not_whole (λ done. omega (arith, is_so, done)) (λ refused. omega (arith, is_so, refused))
      (front_on written (bytes_of play.after.text) t.text play.written_is
      (subst (IsFrontOf (bytes_of play.after.text)) text_is (front_of_text play.after.text rest is.played.stage.text on)))

pub written_is_of : AtMostOnePlay → CutTextsAreFronts → WrittenIsOfTranscript
written_is_of one fronts last script status world written t (inl play) unwired is = of_whole one fronts last script status world written t unwired is play
written_is_of one fronts last script status world written t (inr (inl play)) unwired is = of_broken one fronts last script status world written t unwired is play
written_is_of one fronts last script status world written t (inr (inr play)) unwired is = of_starved one fronts last script status world written t unwired is play

-- ---- what `lab` comes to

module _ (exists : TranscriptExists) (of_transcript : WrittenIsOfTranscript) where
  pub of_plays : PlayIsOfTranscript
  of_plays last script bytes status world written unwired is plays =
      some_then (exists script bytes is) (λ t is_t none. none t (is_t, of_transcript last script status world written t plays unwired is_t))

  of_nothing : (script : Script) (bytes : List ℕ) (status : ℕ) (world : Option Parts) (written : List ℕ) → IsScript script bytes → status ≡ 6 → written ≡ []
      → IsOfTranscript script status world written
  of_nothing script bytes status world written is six empty = some_then (exists script bytes is) (λ t is_t none. none t (
    is_t,
    record {
      front = (t.text, ap (λ (front : List ℕ). front ++ t.text) (sym empty));
      whole = λ ended. absurd (elim ended [ inl done ↦ omega (arith, six, done) | inr refused ↦ omega (arith, six, refused) ]);
    },
  ))

  pub lab_is_of : AtMostOneScript → FaultExcludesScript → LabIsOfTranscript
  lab_is_of unique excludes last left status world before after run unwired script is = elim run.comes [
    | inl none ↦ absurd (excludes run.bytes none.fault script none.is_fault is)
    | inr (inl play) ↦
        let same : play.script ≡ script = unique run.bytes play.script script play.is_script is in
        of_plays last script run.bytes status world run.written unwired is (subst (λ (s : Script). Plays Mail last s status world run.written) same play.plays)
    | inr (inr unread) ↦ of_nothing script run.bytes status world run.written is unread.0 unread.3
  ]
