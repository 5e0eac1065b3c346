-- A play by mail that is open, to which lines are added.
use Rattle.std.specs.Prelude.{◌≡◌, ◌<◌, ℕ, ◌+◌, Bool, true, false, List, ◌∷◌, ◌++◌, [], length, ◌⊎◌, Option, None, Some, Result, Ok, Err, IsOk, IsSome, if◌then◌else◌, nat_lt}
use Rattle.hn_base.specs.declared.version.Version.{Version}
use Rattle.hn_script.specs.Entries.{IsEntry, most_bytes}
use Rattle.hn_script.specs.Fault.{LineFault}
use Rattle.hn_script.specs.Line.{of_version}
use Rattle.hn_script.specs.Script.{begun_script, script_text, with_line}
use Rattle.hn_script.specs.Texts.{line_feed}
use Rattle.hn_script.specs.declared.line.Line.{Line}
use Rattle.hn_script.specs.declared.line.Line.TheVariants as line
use Rattle.hn_script.specs.declared.script.Script.{Script}
use Rattle.hn_sync.specs.Exchange.{unless_exchange}
use Rattle.hn_world.specs.declared.parts.Parts.{Parts}
use Rattle.hn_world.specs.Asked.{unless_runs}
use Rattle.hn_world.specs.Replay.{empty_world}
use Rattle.hn_play.specs.declared.end.End.{End}
use Rattle.hn_play.specs.declared.end.End.TheVariants as end
use Rattle.hn_lab.specs.declared.course.OpenFault.{OpenFault}
use Rattle.hn_lab.specs.declared.course.OpenFault.TheVariants as fault
use Rattle.hn_play.specs.declared.end.Stop.TheVariants.{Refused}
use Rattle.hn_lab.specs.Line.{LineEnds, report_of}
use Rattle.hn_play.specs.Stage.{begun, Stage, Mail}
use Rattle.hn_lab.specs.Play.{LinesDone, IsPlay}

-- The lines so far, as a script, and its bytes; how their play ended, which is done where lines may be added, and nothing where
-- memory ended; the world that they led to, and the text that came up.
pub record Opened : Type 0 where
  pub script : Script
  pub source : List ℕ
  pub end : Option End
  pub world : Parts
  pub text : List ℕ

-- nothing was added
abbrev pub begun_play : Version → Opened
begun_play version = record {
  script = begun_script version;
  source = script_text (begun_script version);
  end = Some end.Done;
  world = empty_world version;
  text = [];
}

-- a line that, where it is refused, changes nothing
abbrev pub is_plain : Line → Bool
is_plain (line.Run moment step) = false
is_plain line.Flow = false
is_plain (line.Sync left right) = false
is_plain (line.Address name) = false
is_plain (line.Ula name) = false
is_plain _ = true

-- the code with which a line that is not plain is refused where it begins
abbrev pub unless_begun : Line → Parts → Option ℕ
unless_begun (line.Run moment step) w = if nat_lt moment w.moment then Some 10 else None
unless_begun (line.Sync left right) w = unless_exchange left right w
unless_begun (line.Address name) w = unless_runs name w
unless_begun (line.Ula name) w = unless_runs name w
unless_begun _ w = None

-- the play of the script with one more line ends in a refusal of that
abbrev pub IsRefusedNext : Line → ℕ → Opened → Type 0
IsRefusedNext line code p =
    (after : Stage) × IsPlay (with_line line p.script).lines (end.Refused (length p.script.lines + 2) code) (begun Mail p.script.version) after

-- a line was added, of this text
pub record HasAdded (line : Line) (text : List ℕ) (before after : Opened) : Type 0 where
  pub script : after.script ≡ with_line line before.script
  pub source : after.source ≡ before.source ++ text ++ line_feed ∷ []

-- What a line came to. It is done, and added. Or it is refused, and nothing changed. Or it is refused where part of it may have
-- happened, and added, as the last of a play that is over. Or memory ended: then nothing changed, as where the line is a report,
-- or the play is over.
abbrev pub LineGoes : {A : Type 0} → Line → List ℕ → Opened → Opened → Result A OpenFault → Type 0
LineGoes line text before after (Ok _) = HasAdded line text before after × (after.end ≡ Some end.Done)
LineGoes line text before after (Err (fault.Refused code)) = IsRefusedNext line code before × (after ≡ before)
LineGoes line text before after (Err (fault.Over code)) =
    HasAdded line text before after × (after.end ≡ Some (end.Refused (length before.script.lines + 2) code))
LineGoes line text before after (Err fault.NoMemory) = ((after ≡ before) ⊎ (after.end ≡ None)) × (IsSome (report_of line) → after ≡ before)

-- there is no room for one more line of this text: the script would have too many bytes
abbrev pub ScriptHasNoRoom : {A : Type 0} → List ℕ → Opened → Opened → Result A OpenFault → Type 0
ScriptHasNoRoom text before after result =
    (most_bytes < length before.source + length text + 1) × (result ≡ Err (fault.Refused 15)) × (after ≡ before)

-- what the text of a line came to: it is a line; it is skipped; it is none; or memory ended while it was read
abbrev pub GoesByText : {A : Type 0} → List ℕ → Opened → Opened → Result A OpenFault → Type 0
GoesByText text before after result =
    ((line : Line) × IsEntry (of_version before.script.version) (Some line) text
    × (LineGoes line text before after result ⊎ ScriptHasNoRoom text before after result))
    ⊎ ((IsEntry (of_version before.script.version) None text × IsOk result × (after ≡ before))
    ⊎ (((code : ℕ) × LineFault (of_version before.script.version) text code × (result ≡ Err (fault.Refused code)) × (after ≡ before))
    ⊎ ((result ≡ Err fault.NoMemory) × (after ≡ before))))

-- By mail, a plain line that is refused changes nothing.
abbrev pub PlainRefusalsChangeNothing : Type 0
PlainRefusalsChangeNothing =
    (l : Line) (code : ℕ) (before after : Stage) → is_plain l ≡ true → before.route ≡ Mail → LineEnds l (Some (Refused code)) before after
    → after ≡ before

-- Lines that are played on where others were done are played with these.
abbrev pub PlayedLinesGoOn : Type 0
PlayedLinesGoOn =
    (lines more : List (ℕ × Line)) (end : End) (before between after : Stage) → LinesDone lines before between → IsPlay more end between after
    → IsPlay (lines ++ more) end before after
