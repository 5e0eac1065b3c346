-- What calls of C on a play come to, by the status: 0 done, 1 out of memory, 2 refused, 3 the play is over.
use Rattle.std.specs.Prelude.{◌≡◌, ◌≢◌, ◌⊎◌, ℕ, ◌==◌, if◌then◌else◌, Option, None, Some, Result, Ok, Err, List}
use Rattle.hn_base.specs.declared.version.Version.{Version}
use Rattle.hn_base.specs.declared.version.Version.TheVariants.{One, Two}
use Rattle.hn_lab.specs.declared.course.OpenFault.{OpenFault}
use Rattle.hn_lab.specs.declared.course.OpenFault.TheVariants as fault
use Rattle.hn_play.specs.declared.end.End.TheVariants as ends
use Rattle.hn_lab.specs.Open.{Opened, begun_play, GoesByText}

-- the version of the language of scripts that has a number
abbrev pub version_numbered : ℕ → Option Version
version_numbered number = if number == 1 then Some One else (if number == 2 then Some Two else None)

-- the handle has a play of this version to which nothing was added
abbrev pub IsNewPlay : ℕ → Option Opened → Type 0
IsNewPlay number held = (version : Version) × (version_numbered number ≡ Some version) × (held ≡ Some (begun_play version))

-- the status and the code of what a line came to
abbrev pub line_status : {A : Type 0} → Result A OpenFault → ℕ
line_status (Ok _) = 0
line_status (Err fault.NoMemory) = 1
line_status (Err (fault.Refused code)) = 2
line_status (Err (fault.Over code)) = 3

abbrev pub line_code : {A : Type 0} → Result A OpenFault → ℕ
line_code (Ok _) = 0
line_code (Err fault.NoMemory) = 0
line_code (Err (fault.Refused code)) = code
line_code (Err (fault.Over code)) = code

-- a play that is over stays as it is, with status 3 and code 0
abbrev pub IsOverBefore : Opened → Opened → ℕ → ℕ → Type 0
IsOverBefore before after status code = (before.end ≢ Some ends.Done) × (after ≡ before) × (status ≡ 3) × (code ≡ 0)

-- what the text of a line came to in an open play, with the status and the code of that
abbrev pub IsLinePlayed : List ℕ → Opened → Opened → ℕ → ℕ → Type 0
IsLinePlayed text before after status code =
    (before.end ≡ Some ends.Done)
    × ((went : Result Unit OpenFault) × GoesByText text before after went × (status ≡ line_status went) × (code ≡ line_code went))

abbrev pub TakesLine : List ℕ → Opened → Opened → ℕ → ℕ → Type 0
TakesLine text before after status code = IsOverBefore before after status code ⊎ IsLinePlayed text before after status code

-- The handle had this play and has one: with status 0 it is open, and with 2 it is as it was.
pub record HasTakenLine (text : List ℕ) (before : Opened) (held_after : Option Opened) (status code : ℕ) : Type 0 where
  pub after : Opened
  pub has : held_after ≡ Some after
  pub takes : TakesLine text before after status code
  pub is_open : status ≡ 0 → after.end ≡ Some ends.Done
  pub as_before : status ≡ 2 → after ≡ before
