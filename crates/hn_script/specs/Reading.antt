-- What a step of the reading answers.
use Rattle.std.specs.Prelude.{◌≡◌, ◌≢◌, ℕ, List, ◌∷◌, length, Option, Some, None, Result, Ok, Err}
use Rattle.std.specs.List.{AllZip}
use Rattle.hn_base.specs.Causes.{OnCause, NoCause}
use Rattle.hn_script.specs.Draft.{IsDraftOf}
use Rattle.hn_script.specs.Entries.{IsEntry}
use Rattle.hn_script.specs.Fault.{FirstWordFault, LineFault}
use Rattle.hn_script.specs.Field.{Field, IsField}
use Rattle.hn_script.specs.Language.{Language, SpellsLine}
use Rattle.hn_script.specs.Line.{line_spelling, IsOfVersion, of_version}
use Rattle.hn_base.specs.declared.version.Version.{Version}
use Rattle.hn_script.specs.NodeFile.{of_node}
use Rattle.hn_script.specs.declared.node_file.NodeLine.{NodeLine}
use Rattle.hn_script.specs.declared.draft.Draft.{Draft}
use Rattle.hn_script.specs.declared.line.Line.{Line}

-- the word gives the value that it writes, and code 4 if it writes none
abbrev pub ReadsField : {A : Type 0} → (A → Field) → List ℕ → Result A ℕ → Type 0
ReadsField field_of word (Ok value) = IsField (field_of value) word
ReadsField {A} field_of word (Err code) = (code ≡ 4) × ((value : A) → ¬ IsField (field_of value) word)

-- so many words give the values that they write; code 3 if they are more or fewer, and code 4 if they write none
abbrev pub ReadsFields : {A : Type 0} → ℕ → (A → List Field) → List (List ℕ) → Result A ℕ → Type 0
ReadsFields count fields_of words (Ok values) = AllZip IsField (fields_of values) words
ReadsFields {A} count fields_of words (Err code) =
    OnCause (length words ≢ count) 3 (OnCause ((values : A) → ¬ AllZip IsField (fields_of values) words) 4 NoCause) code

-- a first word and the words after it give the line that they spell, and else their fault
abbrev pub ReadsLine : {A : Type 0} → Language A → List ℕ → List (List ℕ) → Result A ℕ → Type 0
ReadsLine language word words (Ok line) = SpellsLine language line (word ∷ words)
ReadsLine language word words (Err code) = FirstWordFault language word words code

-- the same for a draft, which is of some line
abbrev pub ReadsDraft : Language Line → List ℕ → List (List ℕ) → Result Draft ℕ → Type 0
ReadsDraft language word words (Ok draft) =
    ((line : Line) × IsDraftOf draft line) × ((line : Line) → IsDraftOf draft line → SpellsLine language line (word ∷ words))
ReadsDraft language word words (Err code) = FirstWordFault language word words code

-- the text of a line of a version gives a draft or nothing, and else its fault
abbrev pub ReadsText : Version → List ℕ → Result (Option Draft) ℕ → Type 0
ReadsText version text (Ok None) = IsEntry (of_version version) None text
ReadsText version text (Ok (Some draft)) =
    ((line : Line) × IsDraftOf draft line)
    × ((line : Line) → IsDraftOf draft line → IsEntry (of_version version) (Some line) text)
ReadsText version text (Err code) = LineFault (of_version version) text code

-- the text of a line of a node file gives a line or nothing, and else its fault
abbrev pub ReadsNodeText : List ℕ → Result (Option NodeLine) ℕ → Type 0
ReadsNodeText text (Ok entry) = IsEntry of_node entry text
ReadsNodeText text (Err code) = LineFault of_node text code

-- the lines that begin with a word are all of a version
abbrev pub AreOfVersion : Version → List ℕ → Type 0
AreOfVersion version word = (line : Line) → (line_spelling line).first ≡ word → IsOfVersion version line
