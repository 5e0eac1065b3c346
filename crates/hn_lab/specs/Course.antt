-- The parts of an open play.
use Rattle.std.specs.Prelude.{◌≡◌, ◌≤◌, ℕ, List, length, Option, None, Some}
use Rattle.hn_script.specs.Entries.{most_bytes}
use Rattle.hn_script.specs.Script.{IsDenseScript}
use Rattle.hn_script.specs.declared.line.Line.{Line}
use Rattle.hn_script.specs.declared.script.Script.{Script}
use Rattle.hn_lab.specs.declared.course.Course.{Course as ACourse}
use Rattle.hn_play.specs.declared.end.End.{End}
use Rattle.hn_play.specs.declared.end.Stop.TheVariants.{Refused}
use Rattle.hn_play.specs.declared.playing.Playing.{Playing}
use Rattle.hn_lab.specs.Laws.{IsUnbroken}
use Rattle.hn_lab.specs.Line.{LineEnds}
use Rattle.hn_lab.specs.Open.{Opened}
use Rattle.hn_play.specs.Stage.{begun, Stage, Mail, stage_of}
use Rattle.hn_lab.specs.Play.{LinesDone, IsPlay}
use Rattle.hn_play.specs.Told.{Told, bytes_of}

-- the script of its lines
abbrev pub script_of : ACourse → Script
script_of c = record { version = c.version; lines = c.lines.items }

-- what is seen of it
abbrev pub opened_of : ACourse → Opened
opened_of c = record { script = script_of c; source = c.source.items; end = c.end; world = c.playing.world.parts; text = c.text }

-- where memory did not end, the play of the script ended so, there, and this text came up
abbrev pub IsPlayedSoFar : Script → Option End → Playing → List ℕ → Type 0
IsPlayedSoFar script None playing text = Unit {0}
IsPlayedSoFar script (Some end) playing text =
    (told : List Told) × IsPlay script.lines end (begun Mail script.version) (stage_of playing Mail told) × (text ≡ bytes_of told) × IsUnbroken end

-- the bytes are those of the script, no line of which is skipped
abbrev pub IsKeptSource : Script → List ℕ → Type 0
IsKeptSource script source = IsDenseScript script source × (length source ≤ most_bytes)

abbrev pub IsCourse : ACourse → Type 0
IsCourse c = IsPlayedSoFar (script_of c) c.end c.playing c.text × IsKeptSource (script_of c) c.source.items

-- the lines so far were done, and then this line was refused with this code, whatever of it had happened
abbrev pub IsStoppedNext : Line → ℕ → ACourse → Type 0
IsStoppedNext line code c =
    (between : Stage) × (told : List Told) × LinesDone c.lines.items (begun Mail c.version) between
    × LineEnds line (Some (Refused code)) between (stage_of c.playing Mail told) × (c.text ≡ bytes_of told)
