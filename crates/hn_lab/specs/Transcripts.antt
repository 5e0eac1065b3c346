-- The transcript of a script by mail: there is exactly one, read as that it cannot be that there is none, and what is written
-- is a front of it.
use Rattle.std.specs.Prelude.{◌≡◌, ◌≢◌, ◌⊎◌, ℕ, List, Option, Some}
use Rattle.std.specs.Io.KnownBytes.{Appends}
use Rattle.hn_base.specs.Exists.{Some! }
use Rattle.hn_script.specs.Script.{IsScript}
use Rattle.hn_script.specs.declared.script.Script.{Script}
use Rattle.hn_world.specs.declared.parts.Parts.{Parts}
use Rattle.hn_lab.specs.Existing.{PlayEnd}
use Rattle.hn_lab.specs.Lab.{Plays, status_of, HasDonePlay, HasRefusal, IsLabRun}
use Rattle.hn_lab.specs.Laws.{IsUnbroken}
use Rattle.hn_streams.specs.Output.{IsFrontOf}
use Rattle.hn_play.specs.Stage.{begun, Route, Mail}
use Rattle.hn_lab.specs.Play.{IsPlay}
use Rattle.hn_play.specs.Told.{bytes_of}

-- what the play of a script comes to: its status, the world that it leads to, and its text
pub record Transcript : Type 0 where
  pub status : ℕ
  pub world : Parts
  pub text : List ℕ

-- by mail this is the transcript of a script
pub record IsTranscript (script : Script) (t : Transcript) : Type 0 where
  pub played : PlayEnd
  pub unbroken : IsUnbroken played.end
  pub play : IsPlay script.lines played.end (begun Mail script.version) played.stage
  pub gives : t ≡ record { status = status_of played.end; world = played.stage.world; text = bytes_of played.stage.text }

-- A front of the text is written. With status 0 or 2 that is the status of the transcript, and the world is its world and
-- the whole text is written.
pub record IsWrittenOf (t : Transcript) (status : ℕ) (world : Option Parts) (written : List ℕ) : Type 0 where
  pub front : IsFrontOf written t.text
  pub whole : (status ≡ 0) ⊎ (status ≡ 2) → (status ≡ t.status) × (world ≡ Some t.world) × (written ≡ t.text)

-- so it is of the transcript of a script: it cannot be that there is none
abbrev pub IsOfTranscript : Script → ℕ → Option Parts → List ℕ → Type 0
IsOfTranscript script status world written = Some! (λ (t : Transcript). IsTranscript script t × IsWrittenOf t status world written)

-- so it is of the script that bytes are, and it is appended
abbrev pub AppendsTranscript : Script → ℕ → Option Parts → Option (List ℕ) → Option (List ℕ) → Type 0
AppendsTranscript script status world before after =
    (bytes : List ℕ) → IsScript script bytes → (written : List ℕ) × IsOfTranscript script status world written × Appends before after written

-- By mail a script has a transcript.
abbrev pub TranscriptExists : Type 0
TranscriptExists = (script : Script) (bytes : List ℕ) → IsScript script bytes → Some! (IsTranscript script)

-- It has at most one.
abbrev pub TranscriptIsUnique : Type 0
TranscriptIsUnique = (script : Script) (a b : Transcript) → IsTranscript script a → IsTranscript script b → a ≡ b

-- What a play by mail writes is of each transcript of its script. 5 is the status of a wire that failed.
abbrev pub WrittenIsOfTranscript : Type 0
WrittenIsOfTranscript =
    (last : Route) (script : Script) (status : ℕ) (world : Option Parts) (written : List ℕ) (t : Transcript)
    → Plays Mail last script status world written → status ≢ 5 → IsTranscript script t → IsWrittenOf t status world written

-- So it is of the transcript of a script that bytes are.
abbrev pub PlayIsOfTranscript : Type 0
PlayIsOfTranscript =
    (last : Route) (script : Script) (bytes : List ℕ) (status : ℕ) (world : Option Parts) (written : List ℕ) → status ≢ 5 → IsScript script bytes
    → Plays Mail last script status world written → IsOfTranscript script status world written

-- By mail the lines of a script can be played to their end, or one is refused: it cannot be that neither is so.
abbrev pub DoneOrRefused : Type 0
DoneOrRefused = (script : Script) (bytes : List ℕ) → IsScript script bytes → ¬ (HasDonePlay Mail script) → ¬ (HasRefusal Mail script) → ⊥

-- What `lab` comes to by mail is of the transcript of each script that its source has.
abbrev pub LabIsOfTranscript : Type 0
LabIsOfTranscript =
    (last : Route) (left : Option (List ℕ)) (status : ℕ) (world : Option Parts) (before after : Option (List ℕ))
    (run : IsLabRun Mail last left status world before after) → status ≢ 5
    → (script : Script) → IsScript script run.bytes → IsOfTranscript script status world run.written

-- so it comes to it
pub record IsLabTranscript (last : Route) (left : Option (List ℕ)) (status : ℕ) (world : Option Parts) (before after : Option (List ℕ)) : Type 0 where
  pub run : IsLabRun Mail last left status world before after
  pub of_script : (script : Script) → IsScript script run.bytes → IsOfTranscript script status world run.written
