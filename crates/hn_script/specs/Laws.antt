-- What holds of scripts, of node files, and of their faults.
use Rattle.std.specs.Prelude.{◌≡◌, ℕ, ◌+◌, ◌^◌, ◌<◌, ◌≤◌, ◌↔◌, List, [], ◌∷◌, ◌++◌, length, All, Option, None, Some}
use Rattle.std.specs.List.{AllByRecursion}
use Rattle.hn_base.specs.Byte.{IsByte}
use Rattle.hn_base.specs.Prefix.{IsPrefix}
use Rattle.hn_base.specs.declared.version.Version.{Version}
use Rattle.hn_script.specs.Field.{IsFieldInRange}
use Rattle.hn_script.specs.Entries.{most_bytes, IsEntry}
use Rattle.hn_script.specs.Line.{line_spelling, IsOfVersion, line_text, of_version}
use Rattle.hn_script.specs.NodeFile.{IsNodeFile, IsFirstNodeFault}
use Rattle.hn_script.specs.Script.{IsScript, IsDenseScript, IsFirstFault, begun_script, script_text, with_line}
use Rattle.hn_script.specs.Soak.{soak_text}
use Rattle.hn_script.specs.Texts.{line_feed}
use Rattle.hn_script.specs.declared.fault.ScriptFault.{ScriptFault}
use Rattle.hn_script.specs.declared.line.Line.{Line}
use Rattle.hn_script.specs.declared.line.Line.TheVariants.{Router, Attach, External, Private, Time, Run, Inject}
use Rattle.hn_script.specs.declared.node_file.NodeLine.{NodeLine}
use Rattle.hn_script.specs.declared.script.Script.{Script}

-- bytes are at most one script
abbrev pub AtMostOneScript : Type 0
AtMostOneScript = (bytes : List ℕ) (script other : Script) → IsScript script bytes → IsScript other bytes → script ≡ other

-- the text of a line gives at most one thing: a line of the version, or nothing
abbrev pub AtMostOneEntry : Type 0
AtMostOneEntry =
    (version : Version) (text : List ℕ) (entry other : Option Line) → IsEntry (of_version version) entry text
    → IsEntry (of_version version) other text → entry ≡ other

-- bytes have at most one first fault
abbrev pub AtMostOneFault : Type 0
AtMostOneFault = (bytes : List ℕ) (fault other : ScriptFault) → IsFirstFault fault bytes → IsFirstFault other bytes → fault ≡ other

-- bytes have a first fault if and only if they are no script
abbrev pub HasFaultOrScript : List ℕ → Type 0
HasFaultOrScript bytes = ((fault : ScriptFault) × IsFirstFault fault bytes) ↔ ((script : Script) → ¬ IsScript script bytes)

-- bytes with a first fault are no script
abbrev pub FaultExcludesScript : Type 0
FaultExcludesScript = (bytes : List ℕ) (fault : ScriptFault) (script : Script) → IsFirstFault fault bytes → ¬ IsScript script bytes

-- the lines of a script are of its version: a script of version 1 has no line of a later one
abbrev pub LinesAreOfVersion : Type 0
LinesAreOfVersion = (bytes : List ℕ) (script : Script) → IsScript script bytes
    → AllByRecursion (λ line. IsOfVersion script.version line.1) script.lines

-- a line with its values in their ranges, of at most 16,384 bytes when it is printed
pub record IsPrintable (line : Line) : Type 0 where
  pub in_range : AllByRecursion IsFieldInRange (line_spelling line).fields
  pub short : length (line_text line) ≤ 16384

-- the same lines, numbered one by one from n on
abbrev pub renumbered : ℕ → List (ℕ × Line) → List (ℕ × Line)
renumbered n [] = []
renumbered n (line ∷ lines) = (n, line.1) ∷ renumbered (n + 1) lines

-- what is printed is the script again, numbered from line 2 on
abbrev pub PrintedIsRead : Type 0
PrintedIsRead =
    (script : Script) → AllByRecursion (λ line. IsOfVersion script.version line.1) script.lines
    → AllByRecursion (λ line. IsPrintable line.1) script.lines → length (script_text script) ≤ most_bytes
    → IsScript (record { version = script.version; lines = renumbered 2 script.lines }) (script_text script)

-- a dense script is begun by its first line
abbrev pub DenseBegins : Type 0
DenseBegins = (version : Version) → IsDenseScript (begun_script version) (script_text (begun_script version))

-- with the text of a line more, and an LF, it has this line more
abbrev pub DenseGoesOn : Type 0
DenseGoesOn =
    (script : Script) (bytes text : List ℕ) (line : Line) → IsDenseScript script bytes
    → IsEntry (of_version script.version) (Some line) text → IsDenseScript (with_line line script) (bytes ++ text ++ line_feed ∷ [])

-- it is a script, if its bytes are not too many
abbrev pub DenseIsAScript : Type 0
DenseIsAScript =
    (script : Script) (bytes : List ℕ) → IsDenseScript script bytes → length bytes ≤ most_bytes → IsScript script bytes

-- it has fewer lines than bytes
abbrev pub DenseHasFewLines : Type 0
DenseHasFewLines = (script : Script) (bytes : List ℕ) → IsDenseScript script bytes → length script.lines < length bytes

-- no endpoint is attached under number 0, and no moment or span of time is above 2^48
abbrev pub IsLimited : Line → Type 0
IsLimited (Attach name e link) = 0 < e.0
IsLimited (Time t) = t ≤ 2 ^ 48
IsLimited (Run t step) = (t ≤ 2 ^ 48) × (step ≤ 2 ^ 48)
IsLimited _ = Unit {0}

-- the prefixes of a private link have from 1 to 64 bits, where there is one
abbrev pub IsPrivateLink : Option ℕ → Type 0
IsPrivateLink None = Unit {0}
IsPrivateLink (Some bits) = (1 ≤ bits) × (bits ≤ 64)

-- The values of a line fit: an identifier and the number of an endpoint have 32 bits, a delegated prefix is one and has
-- lifetimes of 32 bits, the prefixes of a private link have from 1 to 64 bits, and what is injected is of bytes.
abbrev pub HasFittingValues : Line → Type 0
HasFittingValues (Router name id) = id.0 < 2 ^ 32
HasFittingValues (Attach name e link) = e.0 < 2 ^ 32
HasFittingValues (External name prefix valid preferred) = IsPrefix prefix × (valid < 2 ^ 32) × (preferred < 2 ^ 32)
HasFittingValues (Private name bits) = IsPrivateLink bits
HasFittingValues (Inject name e how bytes) = All IsByte bytes
HasFittingValues _ = Unit {0}

-- so it is in the lines of a script
abbrev pub ScriptIsLimited : Type 0
ScriptIsLimited = (script : Script) (bytes : List ℕ) → IsScript script bytes → AllByRecursion (λ line. IsLimited line.1) script.lines

-- the values of the lines of a script fit
abbrev pub ValuesFit : Type 0
ValuesFit = (bytes : List ℕ) (script : Script) → IsScript script bytes → AllByRecursion (λ line. HasFittingValues line.1) script.lines

-- the text of each soak is a script
abbrev pub SoakIsAScript : Type 0
SoakIsAScript = (n seed : ℕ) → 2 ≤ n → n ≤ 32 → seed < 2 ^ 64 → (script : Script) × IsScript script (soak_text n seed)

-- bytes are at most one node file
abbrev pub AtMostOneNodeFile : Type 0
AtMostOneNodeFile = (bytes : List ℕ) (lines others : List (ℕ × NodeLine)) → IsNodeFile lines bytes → IsNodeFile others bytes → lines ≡ others

-- and have at most one first fault as one
abbrev pub AtMostOneNodeFault : Type 0
AtMostOneNodeFault =
    (bytes : List ℕ) (fault other : ScriptFault) → IsFirstNodeFault fault bytes → IsFirstNodeFault other bytes → fault ≡ other

-- with which they are none
abbrev pub FaultExcludesNodeFile : Type 0
FaultExcludesNodeFile =
    (bytes : List ℕ) (fault : ScriptFault) (lines : List (ℕ × NodeLine)) → IsFirstNodeFault fault bytes → ¬ IsNodeFile lines bytes
