-- Lines one after the other: what they give, and that what gives something has no fault.
use Rattle.hn_base.proofs.Names.{ℕ, ◌+◌, ◌≤◌, List, [], ◌∷◌, ◌++◌, length, Option, Some, None, inl, inr, refl, sym, ap, arith, AllZip-long}
use Rattle.hn_script.proofs.Names.{IsEntry, AreLines, numbered, IsPlain, TextFault, WordsFault, FirstWordFault, LineFault, IsField, Language, SpellsLine, Gives, words_of}

pub no_lines : {A : Type 0} (language : Language A) (n : ℕ) → AreLines language n [] []
no_lines language n = ([], tt, refl)

-- one line more before others
pub next_line : {A : Type 0} (language : Language A) (n : ℕ) (text : List ℕ) (texts : List (List ℕ)) (entry : Option A) (lines : List (ℕ × A))
    → IsEntry language entry text → AreLines language (n + 1) texts lines → AreLines language n (text ∷ texts) (numbered n (entry ∷ []) ++ lines)
next_line language n text texts None lines h k = (None ∷ k.0, (h, k.1), k.2)
next_line {A} language n text texts (Some line) lines h k = (Some line ∷ k.0, (h, k.1), ap (λ (found : List (ℕ × A)). (n, line) ∷ found) k.2)

-- ---- no fault

pub no_text_fault : (text : List ℕ) (further : ℕ → Type 0) (code : ℕ) → length text ≤ 16384 → IsPlain text
    → ((found : ℕ) → ¬ further found) → ¬ TextFault text further code
no_text_fault text further code short plain none fault =
    elim fault [
      | inl long ↦ absurd (let far = long.0 in omega arith)
      | inr rest ↦ elim rest.1 [
        | inl foreign ↦ foreign.0 plain
        | inr found ↦ none code found.1
      ]
    ]

no_spelled_fault : {A : Type 0} (language : Language A) (line : A) (word : List ℕ) (words : List (List ℕ)) (code : ℕ)
    → SpellsLine language line (word ∷ words) → ¬ FirstWordFault language word words code
no_spelled_fault language line word words code spelled fault =
    elim fault [
      | inl unknown ↦ unknown.0 line spelled.0 spelled.1
      | inr rest ↦ elim rest.1 [
        | inl miscounted ↦ miscounted.0 line spelled.0 spelled.1 (sym (AllZip-long IsField (language.spelling line).fields words spelled.2))
        | inr found ↦ elim found.1 [
          | inl malformed ↦ malformed.0 line spelled
          | inr never ↦ never.1
        ]
      ]
    ]

no_words_fault : {A : Type 0} (language : Language A) (entry : Option A) (words : List (List ℕ)) (code : ℕ) → Gives language entry words → ¬ WordsFault language words code
no_words_fault language entry [] code gives fault = fault
no_words_fault language None (word ∷ words) code gives fault = fault.0 gives
no_words_fault language (Some line) (word ∷ words) code gives fault = no_spelled_fault language line word words code gives.0 fault.1

pub no_line_fault : {A : Type 0} (language : Language A) (entry : Option A) (text : List ℕ) → IsEntry language entry text → (code : ℕ) → ¬ LineFault language text code
no_line_fault language entry text h code =
    no_text_fault text (WordsFault language (words_of text)) code h.short h.plain (λ found. no_words_fault language entry (words_of text) found h.gives)
