-- What a play of a script comes to, and what holds of the whole source.
use Rattle.hn_base.proofs.Names.{◌≡◌, ◌≢◌, ◌<◌, ◌≤◌, ◌^◌, ℕ, zero, suc, List, [], ◌∷◌, Option, None, Some, Result, Ok, Err, length, inl, inr, subst, refl, sym, ap, ◌∙◌, arith, lit<, IfOk, Appends}
use Rattle.hn_base.proofs.Names.{Consumes, IsWhole}
use Rattle.hn_lab.proofs.Names.{append-nil, Contains, IoFault, Failed, NoMemory, Line, Script, Parts, End, Done, HasDonePlay, HasRefusal, IsWholePlay, IsBrokenPlay, Plays, IsLabOf, IsLabRun}
use Rattle.hn_lab.proofs.Names.{StatusOfScript, AtMostOnePlay, AppendsFront, IsCutText, begun, IsPlay, IsCut, IsCutPlay, Stage, Route, bytes_of}
use Rattle.hn_base.proofs.WholeSources.{of_source}
use Rattle.hn_script.specs.Script.{IsFirstFault}
use Rattle.hn_script.specs.declared.fault.ScriptFault.{ScriptFault}
use Rattle.hn_play.specs.declared.end.End.TheVariants.{Refused, WireFailed}
use Rattle.hn_play.specs.Carrying.{IsLeftAt}
use Rattle.hn_lab.specs.Lab.{play_status}

-- ---- the status of a play

-- what nothing cuts, from where the play begins
abbrev pub IsUncut : List (ℕ × Line) → Stage → Stage → Option (List ℕ) → Option (List ℕ) → Result End IoFault → Type 0
IsUncut lines p a h k r = IfOk r (λ end. (after : Stage) × IsPlay lines end p after × (after ≡ record a { text = after.text }) × Appends h k (bytes_of after.text))

-- lines that can be done are not refused, and lines of which one is refused are not done
pub not_refused : AtMostOnePlay → (script : Script) (route : Route) (status : ℕ) (r : Result End IoFault) (p a : Stage) (h k : Option (List ℕ))
    → status ≡ play_status r → p ≡ begun route script.version → IsUncut script.lines p a h k r → HasDonePlay route script → status ≢ 2
not_refused law script route status (Ok Done) p a h k is begins uncut done two = absurd (omega arith)
not_refused law script route status (Ok (Refused number code)) p a h k is begins uncut done two =
    let play = subst (λ (x : Stage). IsPlay script.lines (Refused number code) x uncut.0) begins uncut.1 in
    let same = (law script.lines (Refused number code) Done (begun route script.version) uncut.0 done.after done.told tt tt play done.play).0 in cc
not_refused law script route status (Ok WireFailed) p a h k is begins uncut done two = absurd (omega arith)
not_refused law script route status (Err Failed) p a h k is begins uncut done two = absurd (omega arith)
not_refused law script route status (Err NoMemory) p a h k is begins uncut done two = absurd (omega arith)

pub not_done : AtMostOnePlay → (script : Script) (route : Route) (status : ℕ) (r : Result End IoFault) (p a : Stage) (h k : Option (List ℕ))
    → status ≡ play_status r → p ≡ begun route script.version → IsUncut script.lines p a h k r → HasRefusal route script → status ≢ 0
not_done law script route status (Ok Done) p a h k is begins uncut refused none =
    let play = subst (λ (x : Stage). IsPlay script.lines Done x uncut.0) begins uncut.1 in
    let same = (law script.lines Done (Refused refused.line refused.code) (begun route script.version) uncut.0 refused.after refused.told tt tt play refused.play).0 in cc
not_done law script route status (Ok (Refused number code)) p a h k is begins uncut refused none = absurd (omega arith)
not_done law script route status (Ok WireFailed) p a h k is begins uncut refused none = absurd (omega arith)
not_done law script route status (Err Failed) p a h k is begins uncut refused none = absurd (omega arith)
not_done law script route status (Err NoMemory) p a h k is begins uncut refused none = absurd (omega arith)

-- where memory sufficed, a play is whole, or a failed sink cut it
pub plays_out : (script : Script) (first last : Route) (status : ℕ) (r : Result End IoFault) (p a : Stage) (h k : Option (List ℕ))
    → status ≡ play_status r → ¬ (status ≡ 6) → p ≡ begun first script.version → last ≡ a.route → IsUncut script.lines p a h k r
    → (r ≡ Err Failed → (after : Stage) × (written : List ℕ) × IsCutPlay script.lines p after × (after ≡ record a { text = after.text }) × IsCutText after.text written × Appends h k written)
    → (written : List ℕ) × Plays first last script status (Some a.world) written × Appends h k written
plays_out script first last status (Ok end) p a h k is rest begins route_is (after, play, same, appends) cut =
    let whole : IsWholePlay first last script status (Some a.world) (bytes_of after.text) = record {
      end = end;
      after = after;
      play = subst (λ (x : Stage). IsPlay script.lines end x after) begins play;
      status_is = is;
      world_is = ap (λ (x : Stage). Some x.world) (sym same);
      route_is = route_is ∙ ap (λ (x : Stage). x.route) (sym same);
      written_is = refl;
    } in
    (bytes_of after.text, inl whole, appends)
plays_out script first last status (Err Failed) p a h k is rest begins route_is uncut cut =
    let part = cut refl in
    let broken : IsBrokenPlay first last script status (Some a.world) part.1 = record {
      after = part.0;
      play = subst (λ (x : Stage). IsCutPlay script.lines x part.0) begins part.2;
      status_is = is;
      world_is = ap (λ (x : Stage). Some x.world) (sym part.3);
      route_is = route_is ∙ ap (λ (x : Stage). x.route) (sym part.3);
      written_is = part.4;
    } in
    (part.1, inr (inl broken), part.5)
plays_out script first last status (Err NoMemory) p a h k is rest begins route_is uncut cut = absurd (rest is)

-- a play that ran out of memory
pub starves : (script : Script) (first last : Route) (status : ℕ) (world : Option Parts) (p : Stage) (h k : Option (List ℕ)) → status ≡ 6 → world ≡ None → p ≡ begun first script.version
    → (after : Stage) × IsCut NoMemory script.lines p after × IsLeftAt after last × AppendsFront h k (bytes_of after.text)
    → (written : List ℕ) × Plays first last script status world written × Appends h k written
starves script first last status world p h k is none begins (after, cut, left, front) = (
  front.0,
  inr (inr (record {
    after = after;
    play = subst (λ (x : Stage). IsCut NoMemory script.lines x after) begins cut;
    status_is = is;
    world_is = none;
    route_is = left;
    written_is = front.1;
  })),
  front.2,
)

-- ---- the whole source

-- a longer source is no script, and its first fault is its length
long_fault : (fault : ScriptFault) (whole read : List ℕ) → 2 ^ 24 < length read → length read ≤ length whole → IsFirstFault fault read → IsFirstFault fault whole
long_fault fault whole read long front (inl is) = inl (omega arith, is.1, is.2)
long_fault fault whole read long front (inr is) = let short = is.0 in absurd (omega arith)

-- What `lab` comes to by the bytes that were read. Where they are more than 2^24, it is so by all bytes of the source.
module _ (first last : Route) (status : ℕ) (world : Option Parts) (before after : Option (List ℕ)) where
  abbrev ComesBy : List ℕ → Type 0
  ComesBy bytes = ((written : List ℕ) × IsLabOf first last bytes status world written × Appends before after written) × StatusOfScript first bytes status

  comes_longer : (whole read : List ℕ) → 2 ^ 24 < length read → length read ≤ length whole → ComesBy read → ComesBy whole
  comes_longer whole read long front (lab, only) = (
    (
      lab.0,
      elim lab.1 [
        | inl none ↦ inl (record {
          fault = none.fault;
          is_fault = long_fault none.fault whole read long front none.is_fault;
          world_is = none.world_is;
          route_is = none.route_is;
          written_is = none.written_is;
        })
        | inr (inl play) ↦ let short = play.is_script.small in absurd (omega arith)
        | inr (inr unread) ↦ inr (inr unread)
      ],
      lab.2,
    ),
    record {
      done = λ script is. let short = is.small in absurd (omega arith);
      refused = λ script is. let short = is.small in absurd (omega arith);
      no_script = λ fault is. only.no_script (record { line = 0; code = 15 }) (inl (long, refl, refl));
    },
  )

  run_by : (left : Option (List ℕ)) (bytes : List ℕ) → IsWhole left bytes → ComesBy bytes → IsLabRun first last left status world before after
  run_by left bytes whole (lab, only) = record { bytes = bytes; are_whole = whole; written = lab.0; comes = lab.1; only = only; appends = lab.2 }

  pub lab_run : (left rest : Option (List ℕ)) (read : List ℕ) → Consumes left rest read → (length read ≤ 2 ^ 24 → IsWhole left read)
      → (written : List ℕ) × IsLabOf first last read status world written × Appends before after written → StatusOfScript first read status → IsLabRun first last left status world before after
  lab_run None rest read consumes whole lab only = run_by None read tt (lab, only)
  lab_run (Some left) rest read consumes whole lab only = run_by (Some left) left refl (of_source ComesBy comes_longer (Some left) rest read consumes whole (lab, only))

  -- where memory ended before anything was written, it is so by whatever the source has
  abbrev whole_of : Option (List ℕ) → List ℕ
  whole_of None = []
  whole_of (Some left) = left

  is_whole_of : (left : Option (List ℕ)) → IsWhole left (whole_of left)
  is_whole_of None = tt
  is_whole_of (Some left) = refl

  pub starved_run : (left : Option (List ℕ)) → status ≡ 6 → world ≡ None → last ≡ first → Appends before after [] → IsLabRun first last left status world before after
  starved_run left six none unused stays = record {
    bytes = whole_of left;
    are_whole = is_whole_of left;
    written = [];
    comes = inr (inr (six, none, unused, refl));
    only = record {
      done = λ script is has two. absurd (omega arith);
      refused = λ script is has none. absurd (omega arith);
      no_script = λ fault is none. absurd (omega arith);
    };
    appends = stays;
  }

-- ---- statuses among others

pub among_more : (status : ℕ) → Contains (2 ∷ 4 ∷ 6 ∷ []) status → Contains (0 ∷ 2 ∷ 4 ∷ 5 ∷ 6 ∷ []) status
among_more status (zero, within, is) = (1, lit< tt, is)
among_more status (suc zero, within, is) = (2, lit< tt, is)
among_more status (suc (suc zero), within, is) = (4, lit< tt, is)
among_more status (suc (suc (suc k)), within, is) = absurd (omega arith)

pub among_all : (status : ℕ) → Contains (0 ∷ 2 ∷ 4 ∷ 5 ∷ 6 ∷ []) status → Contains (0 ∷ 2 ∷ 3 ∷ 4 ∷ 5 ∷ 6 ∷ []) status
among_all status (zero, within, is) = (0, lit< tt, is)
among_all status (suc zero, within, is) = (1, lit< tt, is)
among_all status (suc (suc zero), within, is) = (3, lit< tt, is)
among_all status (suc (suc (suc zero)), within, is) = (4, lit< tt, is)
among_all status (suc (suc (suc (suc zero))), within, is) = (5, lit< tt, is)
among_all status (suc (suc (suc (suc (suc k)))), within, is) = absurd (omega arith)

-- where nothing is written
pub appends_nothing : (held : Option (List ℕ)) → Appends held held []
appends_nothing None = tt
appends_nothing (Some bytes) = sym (append-nil bytes)
