-- How a call of a play ended.
use Rattle.std.specs.Prelude.{◌≡◌, ◌≢◌, ⊤, ℕ, List, Option, None, Some, Result, Ok, Err}
use Rattle.hn_io.specs.declared.fault.IoFault.TheVariants.{Failed, NoMemory}
use Rattle.hn_world.specs.declared.event.WorldFault.{WorldFault}
use Rattle.hn_world.specs.declared.event.WorldFault.TheVariants as fault
use Rattle.hn_play.specs.declared.end.Stop.{Stop}
use Rattle.hn_play.specs.declared.end.Stop.TheVariants.{Refused, Cut}
use Rattle.hn_play.specs.Carrying.{IsLeftAt}
use Rattle.hn_play.specs.Process.{Process}
use Rattle.hn_play.specs.Stage.{Stage}
use Rattle.hn_play.specs.Tells.{TellsLines}

-- A process is stopped at some stage. No line came up so far. It is the last stage of the play, but where memory ended:
-- then no more is known of what is left of the play than how its copies go.
pub record IsStopped (process : Process) (stop : Stop) (before after : Stage) : Type 0 where
  pub at : Stage
  pub stopped : process (Some stop) before at
  pub untold : at.text ≡ before.text
  pub is_last : stop ≢ Cut NoMemory → at ≡ after
  pub wire : IsLeftAt at after.route
  pub unwritten : stop ≢ Cut Failed

-- it is done with an answer, or stopped
abbrev pub EndsWith : {A : Type 0} → (A → Process) → Process → Result A Stop → Stage → Stage → Type 0
EndsWith done process (Ok answer) before after = done answer None before after
EndsWith done process (Err stop) before after = IsStopped process stop before after

abbrev pub Ended : {A : Type 0} → Process → Result A Stop → Stage → Stage → Type 0
Ended process result before after = EndsWith (λ _. process) process result before after

-- it is done but for lines that are left to tell, however the telling of these ends, or stopped
abbrev pub Leaves : Process → List (List ℕ) → Stage → Stage → Type 0
Leaves process lines before after = (stop : Option Stop) (end : Stage) → TellsLines lines stop after end → process stop before end

abbrev pub EndsLeaving : Process → Result (List (List ℕ)) Stop → Stage → Stage → Type 0
EndsLeaving process (Ok lines) before after = Leaves process lines before after
EndsLeaving process (Err stop) before after = IsStopped process stop before after

-- why a line goes no further, by what a world answers
abbrev pub stop_of : WorldFault → Stop
stop_of (fault.Refused code) = Refused code
stop_of fault.NoMemory = Cut NoMemory

abbrev pub stopping : {A : Type 0} → Result A WorldFault → Result A Stop
stopping (Ok answer) = Ok answer
stopping (Err why) = Err (stop_of why)

-- A process that uses neither a wire nor a sink is answered: it is done, or refused, and no line came up. Where memory ended
-- nothing is said of it: each such process may be cut where it begins.
abbrev pub IsAnsweredWith : {A : Type 0} → (A → Stage → Stage → Type 0) → Process → Result A WorldFault → Stage → Stage → Type 0
IsAnsweredWith done process (Ok answer) before after = done answer before after
IsAnsweredWith done process (Err (fault.Refused code)) before after = process (Some (Refused code)) before after
IsAnsweredWith done process (Err fault.NoMemory) before after = ⊤

abbrev pub IsAnswered : {A : Type 0} → Process → Result A WorldFault → Stage → Stage → Type 0
IsAnswered process result before after = IsAnsweredWith (λ _. process None) process result before after

-- lines are left to tell
abbrev pub IsAnsweredLeaving : Process → Result (List (List ℕ)) WorldFault → Stage → Stage → Type 0
IsAnsweredLeaving process result before after = IsAnsweredWith (Leaves process) process result before after
