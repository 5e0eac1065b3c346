-- The lines after the first: what each gives, and which is the first with a fault.
use Rattle.std.specs.Prelude.{◌≡◌, ℕ, ◌+◌, ◌^◌, ◌<◌, ◌≤◌, ◌⊎◌, List, [], ◌∷◌, length, Option, Some, None}
use Rattle.std.specs.List.{AllZip}
use Rattle.hn_script.specs.Fault.{IsPlain, LineFault}
use Rattle.hn_script.specs.Language.{Language, Gives}
use Rattle.hn_script.specs.Texts.{lines_of, words_of}
use Rattle.hn_script.specs.declared.fault.ScriptFault.{ScriptFault}

-- the most bytes of a text in lines
abbrev pub most_bytes : ℕ
most_bytes = 2 ^ 24

-- a line after the first, and what it gives: a line of the language, or nothing
pub record IsEntry {A : Type 0} (language : Language A) (entry : Option A) (text : List ℕ) : Type 0 where
  pub short : length text ≤ 16384
  pub plain : IsPlain text
  pub gives : Gives language entry (words_of text)

-- the lines among what is given, with their numbers, of which the first is n
abbrev pub numbered : {A : Type 0} → ℕ → List (Option A) → List (ℕ × A)
numbered n [] = []
numbered n (None ∷ entries) = numbered (n + 1) entries
numbered n (Some line ∷ entries) = (n, line) ∷ numbered (n + 1) entries

-- these texts, of which the first has number n, give these lines with their numbers
abbrev pub AreLines : {A : Type 0} → Language A → ℕ → List (List ℕ) → List (ℕ × A) → Type 0
AreLines {A} language n texts lines =
    (entries : List (Option A)) × AllZip (IsEntry language) entries texts × (lines ≡ numbered n entries)

-- the first fault of these texts, of which the first has number n
abbrev pub FaultFrom : {A : Type 0} → Language A → ℕ → List (List ℕ) → ScriptFault → Type 0
FaultFrom language n [] fault = ⊥
FaultFrom language n (text ∷ texts) fault =
    (LineFault language text fault.code × (fault.line ≡ n))
    ⊎ (((code : ℕ) → ¬ LineFault language text code) × FaultFrom language (n + 1) texts fault)

-- 15: too many bytes, which is found first; else a fault of the lines
abbrev pub BytesFault : (List (List ℕ) → ScriptFault → Type 0) → ScriptFault → List ℕ → Type 0
BytesFault OfLines fault bytes =
    ((most_bytes < length bytes) × (fault.line ≡ 0) × (fault.code ≡ 15))
    ⊎ ((length bytes ≤ most_bytes) × OfLines (lines_of bytes) fault)
