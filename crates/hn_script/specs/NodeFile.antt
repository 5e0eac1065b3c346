-- Which bytes are the file of a single node, of which lines, and which line is the first with a fault.
use Rattle.std.specs.Prelude.{◌≡◌, ◌≢◌, ℕ, ◌≤◌, ◌⊎◌, List, [], ◌∷◌, length, codes}
use Rattle.hn_base.specs.Causes.{OnCause, NoCause}
use Rattle.hn_base.specs.declared.version.Version.TheVariants.{One}
use Rattle.hn_script.specs.Entries.{most_bytes, AreLines, FaultFrom, BytesFault}
use Rattle.hn_script.specs.Fault.{TextFault}
use Rattle.hn_script.specs.Field.{Prefixed, Number}
use Rattle.hn_script.specs.Language.{Spelling, spelled, Language}
use Rattle.hn_script.specs.Line.{priority, lifetime}
use Rattle.hn_script.specs.Script.{first_line}
use Rattle.hn_script.specs.Texts.{lines_of}
use Rattle.hn_script.specs.declared.fault.ScriptFault.{ScriptFault}
use Rattle.hn_script.specs.declared.node_file.NodeLine.{NodeLine}
use Rattle.hn_script.specs.declared.node_file.NodeLine.TheVariants.{Caps, External}

-- how each line is spelled: as in a script, without the name of a router
abbrev pub node_spelling : NodeLine → Spelling
node_spelling (Caps c) = spelled (codes "caps") (priority c.m ∷ priority c.p ∷ priority c.h ∷ priority c.l ∷ [])
node_spelling (External prefix valid preferred) = spelled (codes "external") (Prefixed prefix ∷ lifetime valid ∷ Number 0 valid preferred ∷ [])

-- the language of these lines
abbrev pub of_node : Language NodeLine
of_node = record { spelling = node_spelling; has = λ _. Unit {0} }

-- the bytes are a node file with these lines; the first line is that of the scripts of version 1
pub record IsNodeFile (lines : List (ℕ × NodeLine)) (bytes : List ℕ) : Type 0 where
  pub small : length bytes ≤ most_bytes
  pub texts : List (List ℕ)
  pub parts : lines_of bytes ≡ first_line One ∷ texts
  pub are_lines : AreLines of_node 2 texts lines

-- 1: what is wrong with the first line, which no other version may tell
abbrev pub NodeFirstLineFault : List ℕ → ℕ → Type 0
NodeFirstLineFault text = TextFault text (OnCause (text ≢ first_line One) 1 NoCause)

-- the first fault of the lines of a node file; with no line at all, the first is wrong
abbrev pub FaultOfNodeLines : List (List ℕ) → ScriptFault → Type 0
FaultOfNodeLines [] fault = (fault.line ≡ 1) × (fault.code ≡ 1)
FaultOfNodeLines (text ∷ texts) fault =
    (NodeFirstLineFault text fault.code × (fault.line ≡ 1)) ⊎ ((text ≡ first_line One) × FaultFrom of_node 2 texts fault)

-- the first fault of bytes that are no node file
abbrev pub IsFirstNodeFault : ScriptFault → List ℕ → Type 0
IsFirstNodeFault fault bytes = BytesFault FaultOfNodeLines fault bytes
