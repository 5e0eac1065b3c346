-- By mail lines have a play: it cannot be that they have none.
use Rattle.std.specs.Prelude.{◌≡◌, ◌≤◌, ◌<◌, ◌+◌, ◌^◌, ℕ, List, length, Option, None, Some}
use Rattle.std.specs.List.{AllByRecursion}
use Rattle.hn_base.specs.Exists.{Some! }
use Rattle.hn_script.specs.Laws.{HasFittingValues, IsLimited}
use Rattle.hn_script.specs.Script.{IsScript}
use Rattle.hn_script.specs.declared.line.Line.{Line}
use Rattle.hn_script.specs.declared.script.Script.{Script}
use Rattle.hn_world.specs.Replay.{IsReplayed}
use Rattle.hn_play.specs.declared.end.End.{End}
use Rattle.hn_play.specs.declared.end.Stop.{Stop}
use Rattle.hn_play.specs.declared.end.Stop.TheVariants.{Refused}
use Rattle.hn_lab.specs.Laws.{IsUnbroken}
use Rattle.hn_play.specs.Stage.{begun, Stage, Mail}
use Rattle.hn_lab.specs.Play.{IsPlay}
use Rattle.hn_play.specs.Process.{Process}

-- ---- a play so far

-- Copies go by mail. The world is the replay of its trace, which has 1,000,000 events at most, and each word that is to
-- come has 32 bits. So it is where the play of a script begins.
pub record IsFit (p : Stage) : Type 0 where
  pub mail : p.route ≡ Mail
  pub replayed : IsReplayed p.world
  pub room : length p.world.trace ≤ 1000000
  pub words : (place : ℕ) → p.words place < 2 ^ 32

-- ---- a process

-- how a process ends that nothing cuts and no wire ends: done, or refused with a code
abbrev pub stop_by : Option ℕ → Option Stop
stop_by None = None
stop_by (Some code) = Some (Refused code)

-- so it ends, and where
pub record Ending : Type 0 where
  pub code : Option ℕ
  pub stage : Stage

-- where it is done, the stage is fit again, and the trace has so many events more at least
pub record IsOn (more : ℕ) (before after : Stage) : Type 0 where
  pub fit : IsFit after
  pub grows : length before.world.trace + more ≤ length after.world.trace

abbrev pub GoesOn : ℕ → Option ℕ → Stage → Stage → Type 0
GoesOn more None before after = IsOn more before after
GoesOn more (Some code) before after = Unit {0}

-- from a stage on a process ends: it cannot be that it does not
abbrev pub ComesToAnEnd : ℕ → Process → Stage → Type 0
ComesToAnEnd more process before = Some! (λ (e : Ending). process (stop_by e.code) before e.stage × GoesOn more e.code before e.stage)

-- ---- lines

-- a play that the wire does not end, with its end
pub record PlayEnd : Type 0 where
  pub end : End
  pub stage : Stage

abbrev pub HasAPlay : List (ℕ × Line) → Stage → Type 0
HasAPlay lines before = Some! (λ (p : PlayEnd). IsUnbroken p.end × IsPlay lines p.end before p.stage)

-- By mail lines whose values fit have a play.
abbrev pub PlayExists : Type 0
PlayExists =
    (lines : List (ℕ × Line)) (before : Stage) → IsFit before
    → AllByRecursion (λ line. IsLimited line.1) lines → AllByRecursion (λ line. HasFittingValues line.1) lines → HasAPlay lines before

-- By mail each script has a play.
abbrev pub ScriptHasAPlay : Type 0
ScriptHasAPlay = (script : Script) (bytes : List ℕ) → IsScript script bytes → HasAPlay script.lines (begun Mail script.version)
