-- The text of an open play is that of the transcript of its script.
use Rattle.std.specs.Prelude.{◌≡◌, ◌≢◌, ℕ, List, Option, Some}
use Rattle.hn_script.specs.Script.{IsScript}
use Rattle.hn_world.specs.declared.parts.Parts.{Parts}
use Rattle.hn_play.specs.declared.end.End.{End}
use Rattle.hn_lab.specs.Lab.{status_of, IsLabRun}
use Rattle.hn_lab.specs.Open.{Opened}
use Rattle.hn_play.specs.Stage.{Route, Mail}
use Rattle.hn_lab.specs.Transcripts.{Transcript, IsTranscript, IsWrittenOf}

-- what the play so far comes to, with this end
abbrev pub transcript_so_far : Opened → End → Transcript
transcript_so_far p end = record { status = status_of end; world = p.world; text = p.text }

-- Where memory did not end, the status, the world and the text are those of the play of the lines so far, from the beginning.
abbrev pub IsOfItsTranscript : Opened → Type 0
IsOfItsTranscript p = (end : End) → p.end ≡ Some end → IsTranscript p.script (transcript_so_far p end)

-- What `lab` writes of the bytes of the script of an open play is of the transcript so far; with status 0 or 2 it is the text so far,
-- and the world is that of the play. 5 is the status of a wire that failed, which none is by mail.
abbrev pub LabPlaysTheSource : Type 0
LabPlaysTheSource =
    (p : Opened) (end : End) (last : Route) (status : ℕ) (world : Option Parts) (before after : Option (List ℕ))
    → p.end ≡ Some end → IsOfItsTranscript p → IsScript p.script p.source
    → (run : IsLabRun Mail last (Some p.source) status world before after) → status ≢ 5
    → IsWrittenOf (transcript_so_far p end) status world run.written
