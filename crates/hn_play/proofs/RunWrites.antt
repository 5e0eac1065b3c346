-- How a process ends within another, where lines come up and are written.
use Rattle.hn_base.proofs.Names.{◌≡◌, ◌≢◌, ◌∙◌, ℕ, List, [], ◌∷◌, ◌++◌, Option, None, Some, Result, Ok, Err, inl, refl, sym, ap, subst, append_assoc, IsErrAnd, Appends, flat_map-append, map-append}
use Rattle.hn_base.proofs.Names.{none-some}
use Rattle.hn_play.proofs.Names.{append-nil, same_error, Failed, NoMemory, Parts, Stop, Refused, WireFailed, Cut, IsStopped, Ended, Leaves, Process, ThenProcess, Stage}
use Rattle.hn_play.proofs.Names.{telling, Told, EndsAt, EndsWriting}
use Rattle.hn_streams.specs.Output.{IsPart}
use Rattle.hn_play.proofs.RunStops.{then_on, stopped_within}
use Rattle.std.proofs.KnownBytes.{Appends-trans}
use Rattle.hn_io.specs.declared.fault.IoFault.{IoFault}
use Rattle.hn_play.specs.Told.{told, bytes_of}
use Rattle.hn_play.specs.Writing.{Gets}
use Rattle.hn_streams.specs.TextLines.{AreCut, joined}

-- ---- the bytes of a text

pub bytes_more : (s t : List Told) → bytes_of (s ++ t) ≡ bytes_of s ++ bytes_of t
bytes_more s t = flat_map-append (λ (x : Told). x.line) s t

pub bytes_told : (w : Parts) (lines : List (List ℕ)) → bytes_of (told w lines) ≡ joined lines
bytes_told w [] = refl
bytes_told w (l ∷ lines) = ap (λ (x : List ℕ). l ++ x) (bytes_told w lines)

told_more : (w : Parts) (s t : List (List ℕ)) → told w (s ++ t) ≡ told w s ++ told w t
told_more w s t = map-append (λ (l : List ℕ). record { world = w; line = l }) s t

-- lines that are joined go on after a part of the last
split_at : (before : List (List ℕ)) (cut part : List ℕ) (in_part : IsPart part cut) → joined (before ++ cut ∷ []) ≡ (joined before ++ part) ++ (in_part.missing ++ [])
split_at before cut part in_part =
    flat_map-append (λ (l : List ℕ). l) before (cut ∷ [])
    ∙ ap (λ (x : List ℕ). joined before ++ (x ++ [])) in_part.whole_is
    ∙ ap (λ (x : List ℕ). joined before ++ x) (append_assoc part in_part.missing [])
    ∙ sym (append_assoc (joined before) part (in_part.missing ++ []))

-- ---- what a sink got

pub appends_none : (h : Option (List ℕ)) → Appends h h []
appends_none None = tt
appends_none (Some xs) = sym (append-nil xs)

-- of a text that came up after another
pub gets_more : (stop : Option Stop) (w : Parts) (s t : List Told) (h j k : Option (List ℕ)) → Appends h j (bytes_of s) → Gets stop w t j k → Gets stop w (s ++ t) h k
gets_more None w s t h j k first second = subst (Appends h k) (sym (bytes_more s t)) (Appends-trans h j k (bytes_of s) (bytes_of t) first second)
gets_more (Some (Refused code)) w s t h j k first second = subst (Appends h k) (sym (bytes_more s t)) (Appends-trans h j k (bytes_of s) (bytes_of t) first second)
gets_more (Some WireFailed) w s t h j k first second = subst (Appends h k) (sym (bytes_more s t)) (Appends-trans h j k (bytes_of s) (bytes_of t) first second)
gets_more (Some (Cut Failed)) w s t h j k first cut = record {
  front = s ++ cut.front;
  line = cut.line;
  part = cut.part;
  text_is = ap (λ (x : List Told). s ++ x) cut.text_is ∙ sym (append_assoc s cut.front (told w (cut.line ∷ [])));
  in_part = cut.in_part;
  appends = subst (Appends h k) (sym (ap (λ (x : List ℕ). x ++ cut.part) (bytes_more s cut.front) ∙ append_assoc (bytes_of s) (bytes_of cut.front) cut.part))
      (Appends-trans h j k (bytes_of s) (bytes_of cut.front ++ cut.part) first cut.appends);
}
gets_more (Some (Cut NoMemory)) w s t h j k first (front, is_front, second) = (
  bytes_of s ++ front,
  (is_front.0, bytes_more s t ∙ ap (λ (x : List ℕ). bytes_of s ++ x) is_front.1 ∙ sym (append_assoc (bytes_of s) front is_front.0)),
  Appends-trans h j k (bytes_of s) front first second,
)

-- ---- ends

-- what ends so ends as another process does
pub ends_as : (P Q : Process) (stop : Option Stop) (p a : Stage) (h k : Option (List ℕ)) (e : EndsAt P stop p a h k) → Q stop p e.at → EndsAt Q stop p a h k
ends_as P Q stop p a h k e ended = record { at = e.at; ended = ended; more = e.more; text_is = e.text_is; is_last = e.is_last; wire = e.wire; gets = e.gets }

pub writing_as : {A : Type 0} (P Q : Process) (r : Result A Stop) (p a : Stage) (h k : Option (List ℕ))
    → ((stop : Option Stop) (at : Stage) → P stop p at → Q stop p at) → EndsWriting P r p a h k → EndsWriting Q r p a h k
writing_as P Q (Ok x) p a h k so e = ends_as P Q None p a h k e (so None e.at e.ended)
writing_as P Q (Err stop) p a h k so e = ends_as P Q (Some stop) p a h k e (so (Some stop) e.at e.ended)

-- a process is done, and another goes on from there
pub last_of : (P : Process) (p m : Stage) (h j : Option (List ℕ)) (first : EndsAt P None p m h j) → first.at ≡ record m { text = first.at.text }
last_of P p m h j first = first.is_last (λ e. none-some _ e)

pub goes_on : (P Q R : Process) (stop : Option Stop) (p m a : Stage) (h j k : Option (List ℕ)) (first : EndsAt P None p m h j)
    → ((at : Stage) → Q stop first.at at → R stop p at) → EndsAt Q stop (record m { text = first.at.text }) (record a { text = first.at.text }) j k → EndsAt R stop p a h k
goes_on P Q R stop p m a h j k first so second = record {
  at = second.at;
  ended = so second.at (subst (λ (s : Stage). Q stop s second.at) (sym (last_of P p m h j first)) second.ended);
  more = first.more ++ second.more;
  text_is = second.text_is ∙ ap (λ (x : List Told). x ++ second.more) first.text_is ∙ append_assoc p.text first.more second.more;
  is_last = second.is_last;
  wire = second.wire;
  gets = gets_more stop second.at.world first.more second.more h j k first.gets second.gets;
}

pub then_writes : {A : Type 0} (P Q : Process) (r : Result A Stop) (p m a : Stage) (h j k : Option (List ℕ)) (first : EndsAt P None p m h j)
    → EndsWriting Q r (record m { text = first.at.text }) (record a { text = first.at.text }) j k → EndsWriting (ThenProcess P Q) r p a h k
then_writes P Q (Ok x) p m a h j k first second = goes_on P Q (ThenProcess P Q) None p m a h j k first (λ at ends. then_on P Q None p first.at at first.ended ends) second
then_writes P Q (Err stop) p m a h j k first second = goes_on P Q (ThenProcess P Q) (Some stop) p m a h j k first (λ at ends. then_on P Q (Some stop) p first.at at first.ended ends) second

-- or it is stopped
pub first_stops : (P Q : Process) (stop : Stop) (p a : Stage) (h k : Option (List ℕ)) → EndsAt P (Some stop) p a h k → EndsAt (ThenProcess P Q) (Some stop) p a h k
first_stops P Q stop p a h k e = ends_as P (ThenProcess P Q) (Some stop) p a h k e (inl e.ended)

-- an error that is handed on
pub writing_on : {A : Type 0} (process : Process) (why : Stop) (r : Result A Stop) (p a : Stage) (h k : Option (List ℕ)) → IsErrAnd r (λ e. e ≡ why)
    → EndsAt process (Some why) p a h k → EndsWriting process r p a h k
writing_on process why (Ok x) p a h k is e = absurd is
writing_on process why (Err other) p a h k is e = subst (λ (w : Stop). EndsAt process (Some w) p a h k) (sym is) e

-- ---- a process in which no line comes up

still_gets : (stop : Stop) (w : Parts) (h : Option (List ℕ)) → stop ≢ Cut Failed → Gets (Some stop) w [] h h
still_gets (Refused code) w h unwritten = appends_none h
still_gets WireFailed w h unwritten = appends_none h
still_gets (Cut Failed) w h unwritten = absurd (unwritten refl)
still_gets (Cut NoMemory) w h unwritten = ([], ([], refl), appends_none h)

pub still_done : (process : Process) (p a : Stage) (h : Option (List ℕ)) → a.text ≡ p.text → process None p a → EndsAt process None p a h h
still_done process p a h same done = record {
  at = a;
  ended = done;
  more = [];
  text_is = same ∙ sym (append-nil p.text);
  is_last = λ other. refl;
  wire = inl refl;
  gets = appends_none h;
}

pub still_stopped : (process : Process) (stop : Stop) (p a : Stage) (h : Option (List ℕ)) → IsStopped process stop p a → EndsAt process (Some stop) p a h h
still_stopped process stop p a h s = record {
  at = s.at;
  ended = s.stopped;
  more = [];
  text_is = s.untold ∙ sym (append-nil p.text);
  is_last = λ other.
      let same : s.at ≡ a = s.is_last (λ e. other (ap Some e)) in
      same ∙ ap (λ (x : Stage). record a { text = x.text }) (sym same);
  wire = s.wire;
  gets = still_gets stop s.at.world h s.unwritten;
}

pub still_writes : {A : Type 0} (process : Process) (r : Result A Stop) (p a : Stage) (h : Option (List ℕ)) → a.text ≡ p.text → Ended process r p a → EndsWriting process r p a h h
still_writes process (Ok x) p a h same done = still_done process p a h same done
still_writes process (Err stop) p a h same stopped = still_stopped process stop p a h stopped

-- and nothing follows it
pub still_then : {A : Type 0} (P Q : Process) (r : Result A Stop) (p a : Stage) (h : Option (List ℕ)) → a.text ≡ p.text → ((q : Stage) → Q None q q)
    → Ended P r p a → EndsWriting (ThenProcess P Q) r p a h h
still_then P Q (Ok x) p a h same nothing done = still_done (ThenProcess P Q) p a h same (a, done, nothing a)
still_then P Q (Err stop) p a h same nothing stopped = still_stopped (ThenProcess P Q) stop p a h (stopped_within P (ThenProcess P Q) stop p p a (λ at e. inl e) refl stopped)

-- nothing was written in it
pub uncut : {A : Type 0} (process : Process) (r : Result A Stop) (p a : Stage) → Ended process r p a → r ≢ Err (Cut Failed)
uncut process (Ok x) p a ends failed = cc
uncut process (Err stop) p a ends failed = ends.unwritten (same_error stop (Cut Failed) failed)

-- memory ended where a process stands
pub starves : (process : Process) (p a : Stage) (h : Option (List ℕ)) → process (Some (Cut NoMemory)) p p → a.route ≡ p.route
    → EndsAt process (Some (Cut NoMemory)) p a h h
starves process p a h cut stays = record {
  at = p;
  ended = cut;
  more = [];
  text_is = sym (append-nil p.text);
  is_last = λ other. absurd (other refl);
  wire = inl stays;
  gets = ([], ([], refl), appends_none h);
}

-- ---- lines that were left to tell

module _ (process : Process) (lines : List (List ℕ)) (p a : Stage) (h k : Option (List ℕ)) (same : a.text ≡ p.text) (leaves : Leaves process lines p a) where
  pub lines_written : Appends h k (joined lines) → EndsAt process None p a h k
  lines_written written = record {
    at = telling lines a;
    ended = leaves None (telling lines a) refl;
    more = told a.world lines;
    text_is = ap (λ (x : List Told). x ++ told a.world lines) same;
    is_last = λ other. refl;
    wire = inl refl;
    gets = subst (Appends h k) (sym (bytes_told a.world lines)) written;
  }

  cut_gets : (fault : IoFault) (before : List (List ℕ)) (cut part : List ℕ) → IsPart part cut → Appends h k (joined before ++ part)
      → Gets (Some (Cut fault)) a.world (told a.world (before ++ cut ∷ [])) h k
  cut_gets Failed before cut part in_part written = record {
    front = told a.world before;
    line = cut;
    part = part;
    text_is = told_more a.world before (cut ∷ []);
    in_part = in_part;
    appends = subst (λ (x : List ℕ). Appends h k (x ++ part)) (sym (bytes_told a.world before)) written;
  }
  cut_gets NoMemory before cut part in_part written =
      (joined before ++ part, (in_part.missing ++ [], bytes_told a.world (before ++ cut ∷ []) ∙ split_at before cut part in_part), written)

  pub lines_cut : (fault : IoFault) → (before : List (List ℕ)) × (cut part : List ℕ) × AreCut lines before cut part × Appends h k (joined before ++ part) → EndsAt process (Some (Cut fault)) p a h k
  lines_cut fault (before, cut, part, are, written) = record {
    at = telling (before ++ cut ∷ []) a;
    ended = leaves (Some (Cut fault)) (telling (before ++ cut ∷ []) a) (before, cut, are.rest, are.lines_are, refl);
    more = told a.world (before ++ cut ∷ []);
    text_is = ap (λ (x : List Told). x ++ told a.world (before ++ cut ∷ [])) same;
    is_last = λ other. refl;
    wire = inl refl;
    gets = cut_gets fault before cut part are.in_part written;
  }
