-- The script of a play, as `lab` plays it.
use Rattle.std.specs.Prelude.{◌≡◌, ◌≢◌, ℕ, List, Option, Some}
use Rattle.hn_world.specs.declared.parts.Parts.{Parts}
use Rattle.hn_play.specs.declared.end.End.{End}
use Rattle.hn_lab.specs.Lab.{IsLabRun}
use Rattle.hn_lab.specs.Open.{Opened}
use Rattle.hn_lab.specs.OpenTranscript.{transcript_so_far}
use Rattle.hn_play.specs.Stage.{Route, Mail}
use Rattle.hn_lab.specs.Transcripts.{IsWrittenOf}

-- Where memory did not end, what `lab` writes of the bytes of the script is of the transcript so far: with status 0 or 2 it is the text
-- so far, and the world is that of the play. 5 is the status of a wire that failed, which none is by mail.
abbrev pub LabPlaysTheScript : Opened → Type 0
LabPlaysTheScript p =
    (end : End) (last : Route) (status : ℕ) (world : Option Parts) (before after : Option (List ℕ)) → p.end ≡ Some end
    → (run : IsLabRun Mail last (Some p.source) status world before after) → status ≢ 5 → IsWrittenOf (transcript_so_far p end) status world run.written
