-- How a process ends within another.
use Rattle.hn_base.proofs.Names.{◌≡◌, ◌≢◌, ◌∙◌, ℕ, List, [], ◌∷◌, ◌++◌, Option, None, Some, Result, Ok, Err, inl, inr, refl, sym, ap, subst, IsErrAnd}
use Rattle.hn_play.proofs.Names.{append-nil, same_error, Failed, NoMemory, Stop, Refused, WireFailed, Cut, IsStopped, EndsWith, Ended, Leaves, EndsLeaving, Process, ThenProcess, Stage}
use Rattle.hn_play.proofs.Names.{telling}
use Rattle.hn_play.specs.Carrying.{IsLeftAt}
use Rattle.hn_play.specs.Tells.{TellsLines}

-- what goes on after the first
pub then_on : (first second : Process) (stop : Option Stop) (before between after : Stage) → first None before between → second stop between after → ThenProcess first second stop before after
then_on first second None before between after done rest = (between, done, rest)
then_on first second (Some stop) before between after done rest = inr (between, done, rest)

-- where an inner process is stopped, so is the outer
pub stopped_within : (inner outer : Process) (stop : Stop) (before between after : Stage) → ((at : Stage) → inner (Some stop) between at → outer (Some stop) before at) → between.text ≡ before.text
    → IsStopped inner stop between after → IsStopped outer stop before after
stopped_within inner outer stop before between after so told stopped = record {
  at = stopped.at;
  stopped = so stopped.at stopped.stopped;
  untold = stopped.untold ∙ told;
  is_last = stopped.is_last;
  wire = stopped.wire;
  unwritten = stopped.unwritten;
}

-- where an inner process ends, so does the outer
pub ended_within : {A : Type 0} (inner outer : Process) (r : Result A Stop) (before between after : Stage)
    → ((stop : Option Stop) (at : Stage) → inner stop between at → outer stop before at) → between.text ≡ before.text
    → Ended inner r between after → Ended outer r before after
ended_within inner outer (Ok x) before between after so told ends = so None after ends
ended_within inner outer (Err stop) before between after so told ends = stopped_within inner outer stop before between after (so (Some stop)) told ends

-- and so where lines are left to tell
pub leaving_within : (inner outer : Process) (r : Result (List (List ℕ)) Stop) (before after : Stage) → ((stop : Option Stop) (at : Stage) → inner stop before at → outer stop before at)
    → EndsLeaving inner r before after → EndsLeaving outer r before after
leaving_within inner outer (Ok lines) before after so ends = λ stop end tells. so stop end (ends stop end tells)
leaving_within inner outer (Err stop) before after so ends = stopped_within inner outer stop before before after (so (Some stop)) refl ends

-- memory ended where a process stands
pub starved : (process : Process) (before after : Stage) → process (Some (Cut NoMemory)) before before → IsLeftAt before after.route
    → IsStopped process (Cut NoMemory) before after
starved process before after cut wire = record {
  at = before;
  stopped = cut;
  untold = refl;
  is_last = λ other. absurd (other refl);
  wire = wire;
  unwritten = λ same. absurd cc;
}

-- a process is stopped at the last stage, and the sink did not fail
pub stopped_last : (process : Process) (stop : Stop) (before after : Stage) → process (Some stop) before after → after.text ≡ before.text → stop ≢ Cut Failed → IsStopped process stop before after
stopped_last process stop before after stopped told unwritten = record {
  at = after;
  stopped = stopped;
  untold = told;
  is_last = λ _. refl;
  wire = inl refl;
  unwritten = unwritten;
}

-- ---- an error that is handed on

pub handed_on : {A : Type 0} (done : A → Process) (process : Process) (why : Stop) (r : Result A Stop) (before after : Stage)
    → IsErrAnd r (λ e. e ≡ why) → IsStopped process why before after → EndsWith done process r before after
handed_on done process why (Ok x) before after is stopped = absurd is
handed_on done process why (Err e) before after is stopped = subst (λ (w : Stop). IsStopped process w before after) (sym is) stopped

pub leaving_on : (process : Process) (why : Stop) (r : Result (List (List ℕ)) Stop) (before after : Stage) → IsErrAnd r (λ e. e ≡ why)
    → IsStopped process why before after → EndsLeaving process r before after
leaving_on process why (Ok lines) before after is stopped = absurd is
leaving_on process why (Err e) before after is stopped = subst (λ (w : Stop). IsStopped process w before after) (sym is) stopped

pub no_other_error : {A : Type 0} (why other : Stop) (r : Result A Stop) → IsErrAnd r (λ e. e ≡ why) → why ≢ other → r ≢ Err other
no_other_error why other (Ok x) is unlike same = absurd is
no_other_error why other (Err e) is unlike same = unlike (sym is ∙ same_error e other same)

-- ---- lines that are left to tell

no_line : (front : List (List ℕ)) (line : List ℕ) (back : List (List ℕ)) → [] ≡ front ++ line ∷ back → ⊥
no_line [] line back is = absurd cc
no_line (l ∷ front) line back is = absurd cc

-- where none is left, a process that is done is done
pub nothing_left : (process : Process) (lines : List (List ℕ)) (before after : Stage) → lines ≡ [] → process None before after → Leaves process lines before after
nothing_left process lines before after none done None end tells =
    let tells' : end ≡ telling [] after = subst (λ (ls : List (List ℕ)). end ≡ telling ls after) none tells in
    let same : end ≡ after = tells' ∙ ap (λ (text : _). record after { text = text }) (append-nil after.text) in
    subst (process None before) (sym same) done
nothing_left process lines before after none done (Some (Refused code)) end tells = absurd tells
nothing_left process lines before after none done (Some WireFailed) end tells = absurd tells
nothing_left process lines before after none done (Some (Cut fault)) end tells = absurd (no_line tells.0 tells.1 tells.2 (sym none ∙ tells.3))

-- the rest of a process is to tell its lines
pub lines_left : (first outer : Process) (lines : List (List ℕ)) (before after : Stage)
    → ((stop : Option Stop) (at : Stage) → ThenProcess first (TellsLines lines) stop before at → outer stop before at)
    → first None before after → Leaves outer lines before after
lines_left first outer lines before after so done stop end tells = so stop end (then_on first (TellsLines lines) stop before after end done tells)
