-- Which bytes are the script of which lines, and which line is the first with a fault.
use Rattle.std.specs.Prelude.{◌≡◌, ◌≢◌, ℕ, ◌+◌, ◌≤◌, ◌⊎◌, List, [], ◌∷◌, ◌++◌, length, map, codes, Some}
use Rattle.std.specs.List.{AllZip, concat}
use Rattle.hn_base.specs.Causes.{OnCause, NoCause}
use Rattle.hn_base.specs.declared.version.Version.{Version}
use Rattle.hn_base.specs.declared.version.Version.TheVariants.{One, Two}
use Rattle.hn_script.specs.Entries.{most_bytes, IsEntry, AreLines, FaultFrom, BytesFault, numbered}
use Rattle.hn_script.specs.Fault.{TextFault}
use Rattle.hn_script.specs.Line.{of_version, line_text}
use Rattle.hn_script.specs.Texts.{line_feed, lines_of}
use Rattle.hn_script.specs.declared.fault.ScriptFault.{ScriptFault}
use Rattle.hn_script.specs.declared.line.Line.{Line}
use Rattle.hn_script.specs.declared.script.Script.{Script}

-- the first line of the scripts of each version
abbrev pub first_line : Version → List ℕ
first_line One = codes "hncp 1"
first_line Two = codes "hncp 2"

-- the bytes are a script of its version with these lines
pub record IsScript (script : Script) (bytes : List ℕ) : Type 0 where
  pub small : length bytes ≤ most_bytes
  pub texts : List (List ℕ)
  pub parts : lines_of bytes ≡ first_line script.version ∷ texts
  pub lines : AreLines (of_version script.version) 2 texts script.lines

-- 1: what is wrong with the first line
abbrev pub FirstLineFault : List ℕ → ℕ → Type 0
FirstLineFault text = TextFault text (OnCause ((version : Version) → text ≢ first_line version) 1 NoCause)

-- the first fault of the lines of a script, whose version the first line tells; with no line at all, the first is wrong
abbrev pub FaultOfLines : List (List ℕ) → ScriptFault → Type 0
FaultOfLines [] fault = (fault.line ≡ 1) × (fault.code ≡ 1)
FaultOfLines (text ∷ texts) fault =
    (FirstLineFault text fault.code × (fault.line ≡ 1))
    ⊎ ((version : Version) × (text ≡ first_line version) × FaultFrom (of_version version) 2 texts fault)

-- the first fault of bytes that are no script
abbrev pub IsFirstFault : ScriptFault → List ℕ → Type 0
IsFirstFault fault bytes = BytesFault FaultOfLines fault bytes

-- texts as lines, each with an LF
abbrev pub ended : List (List ℕ) → List ℕ
ended texts = concat (map (λ text. text ++ line_feed ∷ []) texts)

-- the bytes that are printed for a script: its first line and its lines
abbrev pub script_text : Script → List ℕ
script_text script = ended (first_line script.version ∷ map (λ numbered. line_text numbered.1) script.lines)

-- a script of a version with no line after the first
abbrev pub begun_script : Version → Script
begun_script version = record { version = version; lines = [] }

-- a script with one line more, whose number is the next where no line so far was skipped
abbrev pub with_line : Line → Script → Script
with_line line script = record script { lines = script.lines ++ (length script.lines + 2, line) ∷ [] }

-- the bytes are the first line of the script and the texts of its lines, each with an LF: no line is skipped
pub record IsDenseScript (script : Script) (bytes : List ℕ) : Type 0 where
  pub texts : List (List ℕ)
  pub bytes_are : bytes ≡ ended (first_line script.version ∷ texts)
  pub given : List Line
  pub read : AllZip (λ line text. IsEntry (of_version script.version) (Some line) text) given texts
  pub lines_are : script.lines ≡ numbered 2 (map Some given)
