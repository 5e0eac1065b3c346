-- A language of lines: how each line is spelled, and which words give a line.
use Rattle.std.specs.Prelude.{◌≡◌, ℕ, List, [], ◌∷◌, Option, Some, None, slice_index}
use Rattle.std.specs.List.{AllZip}
use Rattle.hn_script.specs.Field.{Field, IsField}

-- a first word, and the values of the words after it
pub record Spelling : Type 0 where
  pub first : List ℕ
  pub fields : List Field

abbrev pub spelled : List ℕ → List Field → Spelling
spelled first fields = record { first = first; fields = fields }

-- how lines are spelled, and which of them the language has
pub record Language (A : Type 0) : Type 1 where
  pub spelling : A → Spelling
  pub has : A → Type 0

-- the words spell the line, which the language has
abbrev pub SpellsLine : {A : Type 0} → Language A → A → List (List ℕ) → Type 0
SpellsLine language line [] = ⊥
SpellsLine language line (word ∷ words) =
    language.has line × ((language.spelling line).first ≡ word) × AllZip IsField (language.spelling line).fields words

-- a line that gives nothing: it has no words, or begins with `#`
abbrev pub IsSkipped : List (List ℕ) → Type 0
IsSkipped [] = Unit {0}
IsSkipped (word ∷ words) = slice_index word 0 ≡ 35

-- what the words of a line give: a line, or nothing
abbrev pub Gives : {A : Type 0} → Language A → Option A → List (List ℕ) → Type 0
Gives language None words = IsSkipped words
Gives language (Some line) words = SpellsLine language line words × ¬ IsSkipped words
