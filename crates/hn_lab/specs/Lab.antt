-- What `play` and `lab` come to: a status, a world, and what they wrote.
use Rattle.std.specs.Prelude.{◌≡◌, ◌≢◌, ◌⊎◌, ℕ, List, [], Option, None, Some, Result, Ok, Err}
use Rattle.std.specs.Io.KnownBytes.{Appends}
use Rattle.hn_base.specs.Input.{IsWhole}
use Rattle.hn_io.specs.declared.fault.IoFault.{IoFault}
use Rattle.hn_io.specs.declared.fault.IoFault.TheVariants.{Failed, NoMemory}
use Rattle.hn_script.specs.declared.fault.ScriptFault.{ScriptFault}
use Rattle.hn_script.specs.declared.script.Script.{Script}
use Rattle.hn_script.specs.Script.{IsScript, IsFirstFault}
use Rattle.hn_world.specs.declared.parts.Parts.{Parts}
use Rattle.hn_play.specs.declared.end.End.{End}
use Rattle.hn_play.specs.declared.end.End.TheVariants.{Done, Refused, WireFailed}
use Rattle.hn_play.specs.Carrying.{IsLeftAt}
use Rattle.hn_lab.specs.Laws.{IsKnownRoute}
use Rattle.hn_streams.specs.Output.{IsPart, IsFrontOf}
use Rattle.hn_lab.specs.Output.{IsCutText}
use Rattle.hn_play.specs.Stage.{begun, Stage, Route}
use Rattle.hn_lab.specs.Play.{IsPlay, IsCut, IsCutPlay}
use Rattle.hn_streams.specs.Refusal.{refused_line}
use Rattle.hn_play.specs.Told.{bytes_of}

-- the status of an end: 0 for done, 2 for refused, 5 where the wire failed
abbrev pub status_of : End → ℕ
status_of Done = 0
status_of (Refused line code) = 2
status_of WireFailed = 5

-- the status of a play, which the sink or out of memory may cut
abbrev pub play_status : Result End IoFault → ℕ
play_status (Ok end) = status_of end
play_status (Err Failed) = 4
play_status (Err NoMemory) = 6

-- by mail, or over a wire that tells what waits: the lines of a script can be played to their end; one is refused
pub record HasDonePlay (route : Route) (script : Script) : Type 0 where
  pub told : IsKnownRoute route
  pub after : Stage
  pub play : IsPlay script.lines Done (begun route script.version) after

pub record HasRefusal (route : Route) (script : Script) : Type 0 where
  pub told : IsKnownRoute route
  pub line : ℕ
  pub code : ℕ
  pub after : Stage
  pub play : IsPlay script.lines (Refused line code) (begun route script.version) after

-- a play that nothing cut, from one route to another: the whole text is written
pub record IsWholePlay (first last : Route) (script : Script) (status : ℕ) (world : Option Parts) (written : List ℕ) : Type 0 where
  pub end : End
  pub after : Stage
  pub play : IsPlay script.lines end (begun first script.version) after
  pub status_is : status ≡ status_of end
  pub world_is : world ≡ Some after.world
  pub route_is : last ≡ after.route
  pub written_is : written ≡ bytes_of after.text

-- a play that a failed sink cut, from one route to another: all lines before some one are written, and a proper part of that
pub record IsBrokenPlay (first last : Route) (script : Script) (status : ℕ) (world : Option Parts) (written : List ℕ) : Type 0 where
  pub after : Stage
  pub play : IsCutPlay script.lines (begun first script.version) after
  pub status_is : status ≡ 4
  pub world_is : world ≡ Some after.world
  pub route_is : last ≡ after.route
  pub written_is : IsCutText after.text written

-- a play that ran out of memory, from one route to another: a front of the text is written
pub record IsStarvedPlay (first last : Route) (script : Script) (status : ℕ) (world : Option Parts) (written : List ℕ) : Type 0 where
  pub after : Stage
  pub play : IsCut NoMemory script.lines (begun first script.version) after
  pub status_is : status ≡ 6
  pub world_is : world ≡ None
  pub route_is : IsLeftAt after last
  pub written_is : IsFrontOf written (bytes_of after.text)

-- what `play` comes to
abbrev pub Plays : Route → Route → Script → ℕ → Option Parts → List ℕ → Type 0
Plays first last script status world written =
    IsWholePlay first last script status world written
    ⊎ (IsBrokenPlay first last script status world written ⊎ IsStarvedPlay first last script status world written)

-- what is written of a line, by the status: the whole line, a proper part of it, or a front
abbrev pub IsLineWritten : List ℕ → ℕ → List ℕ → Type 0
IsLineWritten line status written =
    ((status ≡ 2) × (written ≡ line)) ⊎ (((status ≡ 4) × IsPart written line) ⊎ ((status ≡ 6) × IsFrontOf written line))

-- bytes that are no script: the line of their first fault is written, and no wire is used
pub record IsNoPlay (first last : Route) (bytes : List ℕ) (status : ℕ) (world : Option Parts) (written : List ℕ) : Type 0 where
  pub fault : ScriptFault
  pub is_fault : IsFirstFault fault bytes
  pub world_is : world ≡ None
  pub route_is : last ≡ first
  pub written_is : IsLineWritten (refused_line fault.line fault.code) status written

-- bytes that are a script, and its play
pub record IsScriptPlay (first last : Route) (bytes : List ℕ) (status : ℕ) (world : Option Parts) (written : List ℕ) : Type 0 where
  pub script : Script
  pub is_script : IsScript script bytes
  pub plays : Plays first last script status world written

-- out of memory before anything is written, or a wire is used
abbrev pub IsUnread : Route → Route → ℕ → Option Parts → List ℕ → Type 0
IsUnread first last status world written = (status ≡ 6) × (world ≡ None) × (last ≡ first) × (written ≡ [])

-- what `lab` makes of the bytes of its source
abbrev pub IsLabOf : Route → Route → List ℕ → ℕ → Option Parts → List ℕ → Type 0
IsLabOf first last bytes status world written =
    IsNoPlay first last bytes status world written
    ⊎ (IsScriptPlay first last bytes status world written ⊎ IsUnread first last status world written)

-- what excludes a status
pub record StatusOfScript (route : Route) (bytes : List ℕ) (status : ℕ) : Type 0 where
  pub done : (script : Script) → IsScript script bytes → HasDonePlay route script → status ≢ 2
  pub refused : (script : Script) → IsScript script bytes → HasRefusal route script → status ≢ 0
  pub no_script : (fault : ScriptFault) → IsFirstFault fault bytes → status ≢ 0

-- what `lab` comes to, by the bytes that its source has left, where it tells them
pub record IsLabRun (first last : Route) (left : Option (List ℕ)) (status : ℕ) (world : Option Parts) (before after : Option (List ℕ)) : Type 0 where
  pub bytes : List ℕ
  pub are_whole : IsWhole left bytes
  pub written : List ℕ
  pub comes : IsLabOf first last bytes status world written
  pub only : StatusOfScript first bytes status
  pub appends : Appends before after written
