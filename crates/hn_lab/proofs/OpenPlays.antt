-- An open play goes on with a line.
use Rattle.hn_base.proofs.Names.{◌≡◌, ◌∙◌, ℕ, ◌+◌, ◌<◌, ◌≤◌, List, [], ◌∷◌, ◌++◌, length, take, take_at, Option, None, Some, inl, refl, sym, ap, subst, append_assoc, length-append, arith, true, false}
use Rattle.hn_lab.proofs.Names.{append-nil, NoMemory, Version, Line, Script, End, Stop, Refused, WireFailed, Cut, Failed, Parts, Gets, Playing, Runs, LineEnds, begun, LinesDone, StopsAt}
use Rattle.hn_lab.proofs.Names.{IsPlay, refused_line, Stage, Mail, stage_of, telling, Told, told, bytes_of, EndsAt}
use Rattle.hn_base.specs.declared.version.Version.TheVariants.{One, Two}
use Rattle.std.specs.Prelude.{Bool, nat_lt, if◌then◌else◌}
use Rattle.std.specs.Option.{option_map}
use Rattle.std.proofs.lemmas.Bool.{ltb-true}
use Rattle.hn_script.specs.Entries.{IsEntry, most_bytes}
use Rattle.hn_script.specs.Laws.{DenseBegins, DenseGoesOn}
use Rattle.hn_script.specs.Line.{of_version}
use Rattle.hn_script.specs.Script.{IsDenseScript, begun_script, script_text, with_line}
use Rattle.hn_script.specs.declared.line.Line.TheVariants as line
use Rattle.hn_play.specs.declared.end.End.TheVariants as end
use Rattle.hn_lab.specs.Course.{IsPlayedSoFar, IsKeptSource}
use Rattle.hn_lab.specs.Lab.{status_of}
use Rattle.hn_lab.specs.Laws.{MailDelivers}
use Rattle.hn_lab.specs.Open.{is_plain, unless_begun}
use Rattle.hn_lab.specs.OpenTranscript.{IsOfItsTranscript}
use Rattle.hn_lab.proofs.OpenLines.{line_same}
use Rattle.hn_lab.proofs.PlayLines.{Reached, so_far_more}
use Rattle.hn_play.proofs.RunWrites.{bytes_more, bytes_told}

pub joined_done : (ls more : List (ℕ × Line)) (p m a : Stage) → LinesDone ls p m → LinesDone more m a → LinesDone (ls ++ more) p a
joined_done [] more p m a is done = subst (λ (x : Stage). LinesDone more x a) is done
joined_done (k ∷ ls) more p m a h done = (h.0, h.1, joined_done ls more h.0 m a h.2 done)

pub joined_stop : (number : ℕ) (stop : Stop) (ls more : List (ℕ × Line)) (p m a : Stage) → LinesDone ls p m → StopsAt number stop more m a
    → StopsAt number stop (ls ++ more) p a
joined_stop number stop ls more p m a done s = record {
  front = ls ++ s.front;
  line = s.line;
  rest = s.rest;
  between = s.between;
  lines_are = ap (λ (x : List (ℕ × Line)). ls ++ x) s.lines_are ∙ sym (append_assoc ls s.front ((number, s.line) ∷ s.rest));
  done = joined_done ls s.front p m s.between done s.done;
  said = s.said;
}

pub joined_play : (ls more : List (ℕ × Line)) (e : End) (p m a : Stage) → LinesDone ls p m → IsPlay more e m a → IsPlay (ls ++ more) e p a
joined_play ls more end.Done p m a done h = joined_done ls more p m a done h
joined_play ls more (end.Refused number code) p m a done h = joined_stop number _ ls more p m a done h
joined_play ls more end.WireFailed p m a done (number, h) = (number, joined_stop number _ ls more p m a done h)

-- ---- a line of an open play

-- the lines so far, and the next
abbrev next_of : (script : Script) → Line → List (ℕ × Line)
next_of script l = script.lines ++ (length script.lines + 2, l) ∷ []

reached_so : (script : Script) (l : Line) (old : Playing) (t : List ℕ) (h : IsPlayedSoFar script (Some end.Done) old t)
    → Reached (next_of script l) script.lines (length script.lines + 2) l (begun Mail script.version) (stage_of old Mail h.0) (Some []) (Some t)
reached_so script l old t h = record { rest = []; lines_are = refl; so_far = record { done = h.1; appends = h.2 } }

-- how the call of a line ended, whatever text came up before
abbrev pub Ending : Line → Option Stop → Playing → Playing → List ℕ → List ℕ → Type 0
Ending l stop old new t u = (text : List Told) → EndsAt (LineEnds l) stop (stage_of old Mail text) (stage_of new Mail text) (Some t) (Some u)

pub next_done : (script : Script) (l : Line) (old new : Playing) (t u : List ℕ) → IsPlayedSoFar script (Some end.Done) old t → Ending l None old new t u
    → IsPlayedSoFar (with_line l script) (Some end.Done) new u
next_done script l old new t u h ends =
    let e = ends h.0 in
    let far = so_far_more (next_of script l) script.lines (length script.lines + 2) l (begun Mail script.version) (stage_of old Mail h.0) (stage_of new Mail h.0)
    (Some []) (Some t) (Some u) (reached_so script l old t h) e in
    (e.at.text, far.done, far.appends, tt)

-- it is refused, whatever of it had happened
pub next_stopped : (script : Script) (l : Line) (code : ℕ) (old new : Playing) (t u : List ℕ) → IsPlayedSoFar script (Some end.Done) old t
    → Ending l (Some (Refused code)) old new t u
    → (between : Stage) × (told : List Told) × LinesDone script.lines (begun Mail script.version) between
    × LineEnds l (Some (Refused code)) between (stage_of new Mail told) × (u ≡ bytes_of told)
next_stopped script l code old new t u h ends =
    let e = ends h.0 in
    let last : e.at ≡ stage_of new Mail e.at.text = e.is_last (λ same. absurd cc) in
    let whole : u ≡ t ++ bytes_of e.more = e.gets in (
      stage_of old Mail h.0,
      e.at.text,
      h.1,
      subst (LineEnds l (Some (Refused code)) (stage_of old Mail h.0)) last e.ended,
      whole ∙ ap (λ (x : List ℕ). x ++ bytes_of e.more) h.2 ∙ sym (bytes_more h.0 e.more) ∙ ap bytes_of (sym e.text_is),
    )

-- and the text says so
pub stopped_said : (script : Script) (l : Line) (code : ℕ) (new : Playing) (u w : List ℕ) (between : Stage) (told_so : List Told)
    → LinesDone script.lines (begun Mail script.version) between → LineEnds l (Some (Refused code)) between (stage_of new Mail told_so) → u ≡ bytes_of told_so
    → w ≡ u ++ refused_line (length script.lines + 2) code
    → IsPlayedSoFar (with_line l script) (Some (end.Refused (length script.lines + 2) code)) new w
stopped_said script l code new u w between told_so done ended u_is w_is =
    let n = length script.lines + 2 in let line = refused_line n code in
    let after = stage_of new Mail told_so in (
      told_so ++ told after.world (line ∷ []),
      record { front = script.lines; line = l; rest = []; between = between; lines_are = refl; done = done; said = (after, ended, refl) },
      w_is ∙ ap (λ (x : List ℕ). x ++ line) u_is
          ∙ sym (bytes_more told_so (told after.world (line ∷ [])) ∙ ap (λ (x : List ℕ). bytes_of told_so ++ x) (bytes_told after.world (line ∷ []) ∙ append-nil line)),
      tt,
    )

-- the play of the lines with it ends in a refusal
pub refused_next : (script : Script) (l : Line) (code : ℕ) (p a : Stage) → LinesDone script.lines (begun Mail script.version) p → LineEnds l (Some (Refused code)) p a
    → (after : Stage) × IsPlay (next_of script l) (end.Refused (length script.lines + 2) code) (begun Mail script.version) after
refused_next script l code p a done ended = (
  telling (refused_line (length script.lines + 2) code ∷ []) a,
  record { front = script.lines; line = l; rest = []; between = p; lines_are = refl; done = done; said = (a, ended, refl) },
)

no_more : (xs ys : List Told) → xs ≡ xs ++ ys → ys ≡ []
no_more [] ys h = sym h
no_more (x ∷ xs) ys h = no_more xs ys cc

-- it is plain, and refused: nothing changed
pub next_same : MailDelivers → (script : Script) (l : Line) (code : ℕ) (old new : Playing) (t u : List ℕ) → is_plain l ≡ true → IsPlayedSoFar script (Some end.Done) old t
    → Ending l (Some (Refused code)) old new t u
    → IsPlayedSoFar script (Some end.Done) new u × (u ≡ t) × (new.world.parts ≡ old.world.parts)
next_same delivers script l code old new t u plain h ends =
    let e = ends h.0 in
    let same : e.at ≡ stage_of old Mail h.0 = line_same delivers l plain code (stage_of old Mail h.0) e.at refl e.ended in
    let last : e.at ≡ stage_of new Mail e.at.text = e.is_last (λ same. absurd cc) in
    let now : stage_of new Mail h.0 ≡ stage_of old Mail h.0 = sym (ap (λ (s : Stage). record s { text = h.0 }) last) ∙ ap (λ (s : Stage). record s { text = h.0 }) same in
    let none : e.more ≡ [] = no_more h.0 e.more (sym (ap (λ (s : Stage). s.text) same) ∙ e.text_is) in
    let whole : u ≡ t ++ bytes_of e.more = e.gets in
    let text : u ≡ t = whole ∙ ap (λ (x : List Told). t ++ bytes_of x) none ∙ append-nil t in
    ((h.0, subst (LinesDone script.lines (begun Mail script.version)) (sym now) h.1, text ∙ h.2, tt), text, ap (λ (s : Stage). s.world) now)

-- it is refused where it begins
pub begins_refused : (l : Line) (code : ℕ) (p : Stage) → unless_begun l p.world ≡ Some code → LineEnds l (Some (Refused code)) p p
begins_refused (line.Run moment step) code p is = past (nat_lt moment p.world.moment) refl is
  where
    past : (b : Bool) → nat_lt moment p.world.moment ≡ b → (if b then Some 10 else None) ≡ Some code → Runs moment step (Some (Refused code)) p p
    past true less same = inl (ltb-true moment p.world.moment less, ap (option_map Refused) (sym same), refl)
    past false less same = absurd cc
begins_refused (line.Sync left right) code p is = inl (is, refl)
begins_refused (line.Address name) code p is = inl (is, refl)
begins_refused (line.Ula name) code p is = inl (is, refl)
begins_refused _ code p is = absurd cc

-- ---- the same, as the calls have it

pub ending_of : (l : Line) (at stop : Stop) (old new : Playing) (t u : List ℕ) → at ≡ stop → Ending l (Some at) old new t u → Ending l (Some stop) old new t u
ending_of l at stop old new t u is ends = subst (λ (x : Stop). Ending l (Some x) old new t u) is ends

opened : (script : Script) (how : Option End) (old : Playing) (t : List ℕ) → how ≡ Some end.Done → IsPlayedSoFar script how old t → IsPlayedSoFar script (Some end.Done) old t
opened script how old t is_open h = subst (λ (x : Option End). IsPlayedSoFar script x old t) is_open h

pub keeps : (script : Script) (l same : Line) (how : Option End) (old new : Playing) (t u : List ℕ) → how ≡ Some end.Done → same ≡ l → IsPlayedSoFar script how old t
    → Ending l None old new t u → IsPlayedSoFar (with_line same script) how new u
keeps script l same how old new t u is_open is h ends =
    subst (λ (x : Option End). IsPlayedSoFar (with_line same script) x new u) (sym is_open)
    (subst (λ (x : Line). IsPlayedSoFar (with_line x script) (Some end.Done) new u) (sym is) (next_done script l old new t u (opened script how old t is_open h) ends))

pub stays : MailDelivers → (script : Script) (l : Line) (code : ℕ) (how : Option End) (old new : Playing) (t u : List ℕ) → how ≡ Some end.Done → is_plain l ≡ true
    → IsPlayedSoFar script how old t → Ending l (Some (Refused code)) old new t u → IsPlayedSoFar script how new u × (u ≡ t) × (new.world.parts ≡ old.world.parts)
stays delivers script l code how old new t u is_open plain h ends =
    let same = next_same delivers script l code old new t u plain (opened script how old t is_open h) ends in
    (subst (λ (x : Option End). IsPlayedSoFar script x new u) (sym is_open) same.0, same.1, same.2)

pub refuses : (script : Script) (l : Line) (code : ℕ) (how : Option End) (old new : Playing) (t u : List ℕ) → how ≡ Some end.Done → IsPlayedSoFar script how old t
    → Ending l (Some (Refused code)) old new t u
    → (after : Stage) × IsPlay (next_of script l) (end.Refused (length script.lines + 2) code) (begun Mail script.version) after
refuses script l code how old new t u is_open h ends =
    let so = opened script how old t is_open h in
    refused_next script l code (stage_of old Mail so.0) (ends so.0).at so.1 (ends so.0).ended

pub refuses_at_once : (script : Script) (l : Line) (code : ℕ) (how : Option End) (old : Playing) (t : List ℕ) → how ≡ Some end.Done → IsPlayedSoFar script how old t
    → unless_begun l old.world.parts ≡ Some code
    → (after : Stage) × IsPlay (next_of script l) (end.Refused (length script.lines + 2) code) (begun Mail script.version) after
refuses_at_once script l code how old t is_open h is =
    let so = opened script how old t is_open h in let p = stage_of old Mail so.0 in
    refused_next script l code p p so.1 (begins_refused l code p is)

pub stops_so : (script : Script) (l same : Line) (code : ℕ) (how : Option End) (old new : Playing) (t u : List ℕ) → how ≡ Some end.Done → same ≡ l → IsPlayedSoFar script how old t
    → Ending l (Some (Refused code)) old new t u
    → (between : Stage) × (told : List Told) × LinesDone script.lines (begun Mail script.version) between
    × LineEnds same (Some (Refused code)) between (stage_of new Mail told) × (u ≡ bytes_of told)
stops_so script l same code how old new t u is_open is h ends =
    let so = next_stopped script l code old new t u (opened script how old t is_open h) ends in
    (so.0, so.1, so.2, subst (λ (x : Line). LineEnds x (Some (Refused code)) so.0 (stage_of new Mail so.1)) (sym is) so.3, so.4)

pub said_so : (script after : Script) (l : Line) (code number : ℕ) (new : Playing) (u w : List ℕ) → number ≡ length script.lines + 2 → after ≡ with_line l script
    → w ≡ u ++ refused_line number code
    → (stopped : (between : Stage) × (told : List Told) × LinesDone script.lines (begun Mail script.version) between
    × LineEnds l (Some (Refused code)) between (stage_of new Mail told) × (u ≡ bytes_of told))
    → IsPlayedSoFar after (Some (end.Refused number code)) new w
said_so script after l code number new u w is added written s =
    subst (λ (x : Script). IsPlayedSoFar x (Some (end.Refused number code)) new w) (sym added)
    (subst (λ (m : ℕ). IsPlayedSoFar (with_line l script) (Some (end.Refused m code)) new w) (sym is)
    (stopped_said script l code new u w s.0 s.1 s.2 s.3 s.4 (written ∙ ap (λ (m : ℕ). u ++ refused_line m code) is)))

-- so it is of equal parts
pub played_as : (script after : Script) (how other : Option End) (p q : Playing) (t u : List ℕ) → after ≡ script → other ≡ how → q ≡ p → u ≡ t → IsPlayedSoFar script how p t
    → IsPlayedSoFar after other q u
played_as script after how other p q t u script_is how_is playing_is text_is h =
    subst (λ (x : Script). IsPlayedSoFar x other q u) (sym script_is)
    (subst (λ (x : Option End). IsPlayedSoFar script x q u) (sym how_is)
    (subst (λ (x : Playing). IsPlayedSoFar script how x u) (sym playing_is) (subst (λ (x : List ℕ). IsPlayedSoFar script how p x) (sym text_is) h)))

-- ---- the transcript of the lines so far

pub of_transcript : (script : Script) (source : List ℕ) (how : Option End) (new : Playing) (u : List ℕ) → IsPlayedSoFar script how new u
    → IsOfItsTranscript (record { script = script; source = source; end = how; world = new.world.parts; text = u })
of_transcript script source how new u h e is =
    let so = subst (λ (x : Option End). IsPlayedSoFar script x new u) is h in record {
      played = record { end = e; stage = stage_of new Mail so.0 };
      unbroken = so.3;
      play = so.1;
      gives = λ i. record { status = status_of e; world = new.world.parts; text = so.2 i };
    }

-- ---- its beginning

short_opening : (version : Version) → length (script_text (begun_script version)) ≤ most_bytes
short_opening One = omega arith
short_opening Two = omega arith

pub begun_course : DenseBegins → (version : Version) (lines : List (ℕ × Line)) (source : List ℕ) (playing : Playing) (text : List ℕ) → lines ≡ []
    → source ≡ script_text (begun_script version) → stage_of playing Mail [] ≡ begun Mail version → text ≡ []
    → IsPlayedSoFar (record { version = version; lines = lines }) (Some end.Done) playing text × IsKeptSource (record { version = version; lines = lines }) source
begun_course begins version lines source playing text no_lines opening begun_so no_text =
    let is : ◌≡◌ {A = Script} (record { version = version; lines = lines }) (begun_script version) = λ i. record { version = version; lines = no_lines i } in (
      ([], subst (λ (ls : List (ℕ × Line)). LinesDone ls (begun Mail version) (stage_of playing Mail [])) (sym no_lines) begun_so, no_text, tt),
      (
        subst (λ (s : Script). IsDenseScript s source) (sym is) (subst (IsDenseScript (begun_script version)) (sym opening) (begins version)),
        subst (λ (bytes : List ℕ). length bytes ≤ most_bytes) (sym opening) (short_opening version),
      ),
    )

-- ---- its script

-- a line is added
pub kept_more : DenseGoesOn → (script after : Script) (source text more : List ℕ) (line : Line) → IsKeptSource script source
    → IsEntry (of_version script.version) (Some line) text → length source + length text < most_bytes → after ≡ with_line line script
    → more ≡ source ++ text ++ 10 ∷ [] → IsKeptSource after more
kept_more goes_on script after source text more line kept entry fits script_is source_is =
    let long : length more ≡ length (source ++ text ++ 10 ∷ []) = ap length source_is in
    let parts = length-append (source ++ text) (10 ∷ []) in
    let front = length-append source text in (
      subst (λ (s : Script). IsDenseScript s more) (sym script_is)
          (subst (IsDenseScript (with_line line script)) (sym source_is) (goes_on script source text line kept.0 entry)),
      omega (arith, long, parts, front, fits),
    )

-- ---- a report that does not go on

-- the text is cut back
pub cut_back : (l : Line) (stop : Stop) (old new : Playing) (t u : List ℕ) → Ending l (Some stop) old new t u → take (length t) u ≡ t
cut_back l stop old new t u ends = back stop (ends []).at.world (ends []).more (ends []).gets
  where
    whole : (front : List ℕ) → u ≡ t ++ front → take (length t) u ≡ t
    whole front longer = ap (take (length t)) longer ∙ take_at t front (length t) refl

    back : (why : Stop) (w : Parts) (more : List Told) → Gets (Some why) w more (Some t) (Some u) → take (length t) u ≡ t
    back (Refused code) w more gets = whole (bytes_of more) gets
    back WireFailed w more gets = whole (bytes_of more) gets
    back (Cut Failed) w more gets = whole (bytes_of gets.front ++ gets.part) gets.appends
    back (Cut NoMemory) w more (front, is_front, appends) = whole front appends
