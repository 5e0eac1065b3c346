-- What a look comes to: a status, and what was written.
use Rattle.std.specs.Prelude.{◌≡◌, ◌⊎◌, ℕ, List, [], ◌++◌, Option, None, Some, Result, Ok, Err}
use Rattle.std.specs.Io.KnownBytes.{Appends}
use Rattle.hn_io.specs.declared.fault.IoFault.{IoFault}
use Rattle.hn_io.specs.declared.fault.IoFault.TheVariants.{Failed, NoMemory}
use Rattle.hn_lab.specs.Lab.{IsLabRun}
use Rattle.hn_streams.specs.Refusal.{refused_line}
use Rattle.hn_play.specs.Stage.{Mail}
use Rattle.hn_base.specs.Name.{name_text}
use Rattle.hn_calm.specs.Text.{IsCalmText}
use Rattle.hn_table.specs.Table.{IsTableText}
use Rattle.hn_why.specs.Why.{IsWhy}
use Rattle.hn_world.specs.Names.{member_named}
use Rattle.hn_world.specs.Asked.{of_router, unless_running}
use Rattle.hn_world.specs.declared.member.Member.{Member}
use Rattle.hn_world.specs.declared.parts.Parts.{Parts}
use Rattle.hn_look.specs.declared.words.Form.{Form}
use Rattle.hn_look.specs.declared.words.Form.TheVariants.{Calm, Log, Table, Why}
use Rattle.hn_look.specs.Log.{IsLog}
use Rattle.hn_streams.specs.Output.{AppendsCut}

-- A way to look at a world comes to a status, 0 or 2, and a text: `log`.
abbrev pub SeesLog : Parts → ℕ → List ℕ → Type 0
SeesLog w status text = (status ≡ 0) × IsLog w text

-- a name is refused: with this code, and with no number of a line
abbrev pub Refuses : ℕ → ℕ → List ℕ → Type 0
Refuses code status text = (status ≡ 2) × (text ≡ refused_line 0 code)

-- or else a text is written
abbrev pub Says : List ℕ → ℕ → List ℕ → Type 0
Says text status more = (status ≡ 0) × (more ≡ text)

-- `table`: what the router of the name holds; 7 is the code where there is none
abbrev pub TableOf : List ℕ → Option Member → ℕ → List ℕ → Type 0
TableOf name None status text = Refuses 7 status text
TableOf name (Some m) status text = (status ≡ 0) × IsTableText name m text

abbrev pub SeesTable : List ℕ → Parts → ℕ → List ℕ → Type 0
SeesTable name w status text = TableOf name (member_named name w) status text

-- `why`: whether the router of the name is settled and quiet, and if not, why; there is a code where none of the name runs
abbrev pub WhyUnless : Option ℕ → List ℕ → Parts → ℕ → List ℕ → Type 0
WhyUnless None name w status text = (status ≡ 0) × IsWhy name w text
WhyUnless (Some code) name w status text = Refuses code status text

abbrev pub SeesWhy : List ℕ → Parts → ℕ → List ℕ → Type 0
SeesWhy name w status text = WhyUnless (of_router unless_running (member_named name w)) name w status text

-- `calm`: whether the home of the router of the name is calm, and until when it lasts; there is a code where none of the name runs
abbrev pub CalmUnless : Option ℕ → List ℕ → Parts → ℕ → List ℕ → Type 0
CalmUnless None name w status text = (status ≡ 0) × IsCalmText name w text
CalmUnless (Some code) name w status text = Refuses code status text

abbrev pub SeesCalm : List ℕ → Parts → ℕ → List ℕ → Type 0
SeesCalm name w status text = CalmUnless (of_router unless_running (member_named name w)) name w status text

-- in the way of a form
abbrev pub Sees : Form → Parts → ℕ → List ℕ → Type 0
Sees Log w status text = SeesLog w status text
Sees (Table name) w status text = SeesTable (name_text name) w status text
Sees (Why name) w status text = SeesWhy (name_text name) w status text
Sees (Calm name) w status text = SeesCalm (name_text name) w status text

-- Whether the memory may end before there is a text of which a part was written: a log is written event by event, and the
-- others at once.
abbrev pub MayStarve : Form → Type 0
MayStarve Log = ⊥
MayStarve _ = Unit {0}

-- where a script led to no world, there is nothing to see
abbrev pub SeesOf : (Parts → ℕ → List ℕ → Type 0) → Option Parts → ℕ → List ℕ → Type 0
SeesOf sees None status text = (status ≡ 0) × (text ≡ [])
SeesOf sees (Some w) status text = sees w status text

-- a transcript ends with this line, which says that the script was refused
pub record EndsRefused (transcript line : List ℕ) : Type 0 where
  pub front : List ℕ
  pub number : ℕ
  pub code : ℕ
  pub transcript_is : transcript ≡ front ++ line
  pub line_is : line ≡ refused_line number code

-- a script that was refused: what is seen of the world up to there, and then that line
pub record IsRefusedLook (sees : Parts → ℕ → List ℕ → Type 0) (world : Option Parts) (transcript : List ℕ) (status : ℕ) (text : List ℕ) : Type 0 where
  pub seen : ℕ
  pub look : List ℕ
  pub line : List ℕ
  pub sees_so : SeesOf sees world seen look
  pub ends : EndsRefused transcript line
  pub status_is : status ≡ 2
  pub text_is : text ≡ look ++ line

-- what is to be written after a play of this status, and with which status
abbrev pub IsLook : (Parts → ℕ → List ℕ → Type 0) → ℕ → Option Parts → List ℕ → ℕ → List ℕ → Type 0
IsLook sees played world transcript status text =
    ((played ≡ 0) × SeesOf sees world status text) ⊎ ((played ≡ 2) × IsRefusedLook sees world transcript status text)

-- it was written; the writing was cut by a fault
abbrev pub Writes : (ℕ → List ℕ → Type 0) → ℕ → Option (List ℕ) → Option (List ℕ) → Type 0
Writes IsText status before after = (text : List ℕ) × IsText status text × Appends before after text

abbrev pub Cuts : (ℕ → List ℕ → Type 0) → IoFault → Option (List ℕ) → Option (List ℕ) → Type 0
Cuts IsText fault before after = (status : ℕ) × (text : List ℕ) × IsText status text × AppendsCut fault before after text

-- the memory ended before there was a text, where that may be (`Starving`), and nothing was written
abbrev pub StarvesLook : Type 0 → IoFault → Option (List ℕ) → Option (List ℕ) → Type 0
StarvesLook Starving Failed before after = ⊥
StarvesLook Starving NoMemory before after = Starving × Appends before after []

-- by the answer of a call that writes
abbrev pub Looked : Type 0 → (ℕ → List ℕ → Type 0) → Result ℕ IoFault → Option (List ℕ) → Option (List ℕ) → Type 0
Looked Starving IsText (Ok status) before after = Writes IsText status before after
Looked Starving IsText (Err fault) before after = Cuts IsText fault before after ⊎ StarvesLook Starving fault before after

-- the status of such a call
abbrev pub looked_status : Result ℕ IoFault → ℕ
looked_status (Ok status) = status
looked_status (Err Failed) = 4
looked_status (Err NoMemory) = 6

-- the play ran out of memory, and nothing was written
abbrev pub IsUnseen : ℕ → ℕ → Option (List ℕ) → Option (List ℕ) → Type 0
IsUnseen played status before after = (played ≡ 6) × (status ≡ 6) × Appends before after []

-- a look at the world of a play
pub record IsLookedAt (Starving : Type 0) (sees : Parts → ℕ → List ℕ → Type 0) (played : ℕ) (world : Option Parts)
    (transcript : List ℕ) (status : ℕ) (before after : Option (List ℕ)) : Type 0 where
  pub answer : Result ℕ IoFault
  pub status_is : status ≡ looked_status answer
  pub looked : Looked Starving (IsLook sees played world transcript) answer before after

-- What a form comes to that looks so, and may starve or not, by the bytes that its source has left, where it tells them: the
-- script that they are is played as `lab` plays it, by mail, with a transcript; and then the world is looked at.
pub record IsLookRun (Starving : Type 0) (sees : Parts → ℕ → List ℕ → Type 0) (left : Option (List ℕ)) (status : ℕ) (before after : Option (List ℕ)) : Type 0 where
  pub played : ℕ
  pub world : Option Parts
  pub transcript : List ℕ
  pub plays : IsLabRun Mail Mail left played world (Some []) (Some transcript)
  pub comes : IsUnseen played status before after ⊎ IsLookedAt Starving sees played world transcript status before after
