-- Lines of a language are given once, and have one first fault.
use Rattle.hn_base.proofs.Names.{◌≡◌, ℕ, ◌+◌, List, [], ◌∷◌, Option, Some, None, inl, inr, refl, ap, ◌∙◌, sym, arith, AllZip, OnCause, NoCause}
use Rattle.hn_script.proofs.Names.{IsEntry, FaultFrom, IsUnknown, TextFault, WordsFault, LineFault, Language, SpellsLine, Gives, words_of, lines_of, ScriptFault}
use Rattle.hn_base.proofs.FirstCause.{one_cause}
use Rattle.hn_script.specs.Entries.{BytesFault}
use Rattle.hn_script.specs.Fault.{IsMiscounted, IsMalformedLine}
use Rattle.hn_script.proofs.Entries.{no_line_fault}

-- words spell one line
abbrev pub IsTold : {A : Type 0} → Language A → Type 0
IsTold {A} language = (line other : A) (word : List ℕ) (words : List (List ℕ)) → SpellsLine language line (word ∷ words) → SpellsLine language other (word ∷ words) → line ≡ other

pub same_given : {A : Type 0} (language : Language A) → IsTold language → (a b : Option A) (words : List (List ℕ)) → Gives language a words → Gives language b words → a ≡ b
same_given language told None None words h k = refl
same_given language told None (Some line) words h k = absurd (k.1 h)
same_given language told (Some line) None words h k = absurd (h.1 k)
same_given language told (Some line) (Some other) [] h k = absurd h.0
same_given language told (Some line) (Some other) (word ∷ words) h k = ap Some (told line other word words h.0 k.0)

pub same_entries : {A : Type 0} (language : Language A) → IsTold language → (left right : List (Option A)) (texts : List (List ℕ))
    → AllZip (IsEntry language) left texts → AllZip (IsEntry language) right texts → left ≡ right
same_entries language told [] [] texts h k = refl
same_entries language told [] (b ∷ right) [] h k = absurd k
same_entries language told [] (b ∷ right) (text ∷ texts) h k = absurd h
same_entries language told (a ∷ left) [] [] h k = absurd h
same_entries language told (a ∷ left) [] (text ∷ texts) h k = absurd k
same_entries language told (a ∷ left) (b ∷ right) [] h k = absurd h
same_entries language told (a ∷ left) (b ∷ right) (text ∷ texts) h k =
    let head = same_given language told a b (words_of text) h.0.gives k.0.gives in
    let tail = same_entries language told left right texts h.1 k.1 in
    cc

-- ---- no fault

pub no_fault_from : {A : Type 0} (language : Language A) (n : ℕ) (texts : List (List ℕ)) (entries : List (Option A)) (fault : ScriptFault)
    → AllZip (IsEntry language) entries texts → ¬ FaultFrom language n texts fault
no_fault_from language n [] entries fault h found = found
no_fault_from language n (text ∷ texts) [] fault h found = h
no_fault_from language n (text ∷ texts) (entry ∷ entries) fault h found = elim found [
  | inl here ↦ no_line_fault language entry text h.0 fault.code here.0
  | inr later ↦ no_fault_from language (n + 1) texts entries fault h.1 later.1
]

-- ---- one fault

abbrev pub IsSole : (ℕ → Type 0) → Type 0
IsSole P = (a b : ℕ) → P a → P b → a ≡ b

pub sole_none : IsSole NoCause
sole_none a b h k = absurd h

pub sole_else : (Broken : Type 0) (code : ℕ) (further : ℕ → Type 0) → IsSole further → IsSole (OnCause Broken code further)
sole_else Broken code further sole a b h k = one_cause Broken code further a b (sole a b) h k

sole_words : {A : Type 0} (language : Language A) (words : List (List ℕ)) → IsSole (WordsFault language words)
sole_words language [] a b h k = absurd h
sole_words language (word ∷ words) a b h k =
    sole_else (IsUnknown language word) 2 _ (sole_else (IsMiscounted language word words) 3 _ (sole_else (IsMalformedLine language (word ∷ words)) 4 NoCause sole_none)) a b h.1 k.1

pub sole_text : (text : List ℕ) (further : ℕ → Type 0) → IsSole further → IsSole (TextFault text further)
sole_text text further sole = sole_else _ 5 _ (sole_else _ 6 further sole)

same_code : {A : Type 0} (language : Language A) (text : List ℕ) (a b : ℕ) → LineFault language text a → LineFault language text b → a ≡ b
same_code language text = sole_text text (WordsFault language (words_of text)) (sole_words language (words_of text))

pub same_fault : (fault other : ScriptFault) → fault.line ≡ other.line → fault.code ≡ other.code → fault ≡ other
same_fault fault other line code = rw (line, code) refl

pub one_fault_from : {A : Type 0} (language : Language A) (n : ℕ) (texts : List (List ℕ)) (fault other : ScriptFault)
    → FaultFrom language n texts fault → FaultFrom language n texts other → fault ≡ other
one_fault_from language n [] fault other h k = absurd h
one_fault_from language n (text ∷ texts) fault other h k = elim h [
  | inl here ↦ elim k [
    | inl there ↦ same_fault fault other (here.1 ∙ sym there.1) (same_code language text fault.code other.code here.0 there.0)
    | inr later ↦ absurd (later.0 fault.code here.0)
  ]
  | inr early ↦ elim k [
    | inl there ↦ absurd (early.0 other.code there.0)
    | inr later ↦ one_fault_from language (n + 1) texts fault other early.1 later.1
  ]
]

-- bytes have one first fault where their lines have one
pub one_bytes_fault : (OfLines : List (List ℕ) → ScriptFault → Type 0) (bytes : List ℕ) (fault other : ScriptFault)
    → ((texts : List (List ℕ)) → OfLines texts fault → OfLines texts other → fault ≡ other) → BytesFault OfLines fault bytes → BytesFault OfLines other bytes → fault ≡ other
one_bytes_fault OfLines bytes fault other one h k = elim h [
  | inl large ↦ elim k [
    | inl far ↦ same_fault fault other (large.1 ∙ sym far.1) (large.2 ∙ sym far.2)
    | inr small ↦ absurd (let far = large.0 in let near = small.0 in omega arith)
  ]
  | inr small ↦ elim k [
    | inl large ↦ absurd (let far = large.0 in let near = small.0 in omega arith)
    | inr near ↦ one (lines_of bytes) small.1 near.1
  ]
]
