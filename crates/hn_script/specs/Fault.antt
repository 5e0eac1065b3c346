-- What is wrong with a line, by the first rule that it breaks.
use Rattle.std.specs.Prelude.{◌≡◌, ◌≢◌, ℕ, ◌<◌, ◌≤◌, List, [], ◌∷◌, length}
use Rattle.std.specs.List.{AllByRecursion}
use Rattle.hn_base.specs.Causes.{OnCause, NoCause}
use Rattle.hn_script.specs.Language.{Language, SpellsLine, IsSkipped}
use Rattle.hn_script.specs.Texts.{words_of}

-- no byte but those from 20 to 7E in hexadecimal
abbrev pub IsPlain : List ℕ → Type 0
IsPlain text = AllByRecursion (λ c. (32 ≤ c) × (c ≤ 126)) text

-- 5 and 6: what no line may be, and else a further fault
abbrev pub TextFault : List ℕ → (ℕ → Type 0) → ℕ → Type 0
TextFault text further = OnCause (16384 < length text) 5 (OnCause (¬ IsPlain text) 6 further)

-- 2: no line of the language begins so
abbrev pub IsUnknown : {A : Type 0} → Language A → List ℕ → Type 0
IsUnknown {A} language word = (line : A) → language.has line → (language.spelling line).first ≢ word

-- 3: no line that begins so has as many words
abbrev pub IsMiscounted : {A : Type 0} → Language A → List ℕ → List (List ℕ) → Type 0
IsMiscounted {A} language word words =
    (line : A) → language.has line → (language.spelling line).first ≡ word → length (language.spelling line).fields ≢ length words

-- 4: no line has these words
abbrev pub IsMalformedLine : {A : Type 0} → Language A → List (List ℕ) → Type 0
IsMalformedLine {A} language words = (line : A) → ¬ SpellsLine language line words

-- 2 to 4: what is wrong with a first word and the words after it
abbrev pub FirstWordFault : {A : Type 0} → Language A → List ℕ → List (List ℕ) → ℕ → Type 0
FirstWordFault language word words =
    OnCause (IsUnknown language word) 2
    (OnCause (IsMiscounted language word words) 3 (OnCause (IsMalformedLine language (word ∷ words)) 4 NoCause))

-- what is wrong with the words of a line: nothing where it is skipped
abbrev pub WordsFault : {A : Type 0} → Language A → List (List ℕ) → ℕ → Type 0
WordsFault language [] found = ⊥
WordsFault language (word ∷ words) found = ¬ IsSkipped (word ∷ words) × FirstWordFault language word words found

-- what is wrong with a line after the first
abbrev pub LineFault : {A : Type 0} → Language A → List ℕ → ℕ → Type 0
LineFault language text = TextFault text (WordsFault language (words_of text))
