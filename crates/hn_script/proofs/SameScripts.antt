-- Bytes are one script, or have one first fault.
use Rattle.hn_base.proofs.Names.{◌≡◌, ◌≢◌, ◌≤◌, ℕ, List, [], ◌∷◌, length, slice_index, inl, inr, refl, sym, ap, ◌∙◌, subst, arith, OnCause, NoCause}
use Rattle.hn_script.proofs.Names.{Version, One, tail_is, PrefixTextIsOfOne, AreLines, FaultFrom, numbered, IsPlain, of_version, first_line, words_of, ScriptFault, Line}
use Rattle.hn_base.specs.declared.version.Version.TheVariants.{Two}
use Rattle.hn_base.proofs.FrontOfList.{head_is}
use Rattle.hn_script.specs.Laws.{AtMostOneScript, AtMostOneEntry, AtMostOneFault, FaultExcludesScript}
use Rattle.hn_script.specs.Script.{FaultOfLines, FirstLineFault}
use Rattle.hn_script.proofs.Entries.{no_text_fault}
use Rattle.hn_script.proofs.SameEntries.{same_given, same_entries, no_fault_from, sole_none, sole_else, sole_text, same_fault, one_fault_from, one_bytes_fault}
use Rattle.hn_script.proofs.SameFields.{same_line}

-- ---- first lines

pub plain_first : (version : Version) → IsPlain (first_line version)
plain_first One = ((omega arith, omega arith), ((omega arith, omega arith), ((omega arith, omega arith), ((omega arith, omega arith), ((omega arith, omega arith), ((omega arith, omega arith), tt))))))
plain_first Two = ((omega arith, omega arith), ((omega arith, omega arith), ((omega arith, omega arith), ((omega arith, omega arith), ((omega arith, omega arith), ((omega arith, omega arith), tt))))))

pub short_first : (version : Version) → length (first_line version) ≤ 16384
short_first One = omega arith
short_first Two = omega arith

no_first_fault : (version : Version) (code : ℕ) → ¬ FirstLineFault (first_line version) code
no_first_fault version code = no_text_fault (first_line version) (OnCause ((other : Version) → first_line version ≢ first_line other) 1 NoCause) code
    (short_first version) (plain_first version) (λ found fault. elim fault [
      | inl wrong ↦ wrong.0 version refl
      | inr never ↦ never.1
    ])

-- versions have different first lines
same_version : (a b : Version) → first_line a ≡ first_line b → a ≡ b
same_version One One same = refl
same_version One Two same = absurd (let last : 49 ≡ 50 = ap (λ (text : List ℕ). slice_index text 5) same in omega arith)
same_version Two One same = absurd (let last : 50 ≡ 49 = ap (λ (text : List ℕ). slice_index text 5) same in omega arith)
same_version Two Two same = refl

-- ---- one script

same_lines : PrefixTextIsOfOne → (version : Version) (texts : List (List ℕ)) (lines others : List (ℕ × Line))
    → AreLines (of_version version) 2 texts lines → AreLines (of_version version) 2 texts others → lines ≡ others
same_lines one version texts lines others h k =
    h.2 ∙ ap (numbered 2) (same_entries (of_version version) (same_line one version) h.0 k.0 texts h.1 k.1) ∙ sym k.2

pub one_script : PrefixTextIsOfOne → AtMostOneScript
one_script one bytes script other h k =
    let texts : h.texts ≡ k.texts = tail_is (sym h.parts ∙ k.parts) in
    let version : script.version ≡ other.version = same_version script.version other.version (head_is (sym h.parts ∙ k.parts)) in
    let there = subst (λ v. AreLines (of_version v) 2 h.texts other.lines) (sym version) (subst (λ found. AreLines (of_version other.version) 2 found other.lines) (sym texts) k.lines) in
    let lines : script.lines ≡ other.lines = same_lines one script.version h.texts script.lines other.lines h.lines there in
    rw (version, lines) refl

pub one_entry : PrefixTextIsOfOne → AtMostOneEntry
one_entry one version text entry other h k = same_given (of_version version) (same_line one version) entry other (words_of text) h.gives k.gives

-- ---- no fault of a script

no_fault_of_lines : (version : Version) (texts : List (List ℕ)) (lines : List (ℕ × Line)) (fault : ScriptFault) → AreLines (of_version version) 2 texts lines
    → ¬ FaultOfLines (first_line version ∷ texts) fault
no_fault_of_lines version texts lines fault h found = elim found [
  | inl first ↦ no_first_fault version fault.code first.0
  | inr later ↦ no_fault_from (of_version version) 2 texts h.0 fault h.1 (subst (λ v. FaultFrom (of_version v) 2 texts fault) (sym (same_version version later.0 later.1)) later.2)
]

pub script_no_fault : FaultExcludesScript
script_no_fault bytes fault script found h = elim found [
  | inl large ↦ absurd (let far = large.0 in let small = h.small in omega arith)
  | inr later ↦ no_fault_of_lines script.version h.texts script.lines fault h.lines
      (subst (λ texts. FaultOfLines texts fault) h.parts later.1)
]

-- ---- one first fault

same_first_code : (text : List ℕ) (a b : ℕ) → FirstLineFault text a → FirstLineFault text b → a ≡ b
same_first_code text = sole_text text _ (sole_else ((version : Version) → text ≢ first_line version) 1 NoCause sole_none)

one_fault_of_lines : (texts : List (List ℕ)) (fault other : ScriptFault) → FaultOfLines texts fault → FaultOfLines texts other → fault ≡ other
one_fault_of_lines [] fault other h k = same_fault fault other (h.0 ∙ sym k.0) (h.1 ∙ sym k.1)
one_fault_of_lines (text ∷ texts) fault other h k = elim h [
  | inl here ↦ elim k [
    | inl there ↦ same_fault fault other (here.1 ∙ sym there.1) (same_first_code text fault.code other.code here.0 there.0)
    | inr later ↦ absurd (no_first_fault later.0 fault.code (subst (λ t. FirstLineFault t fault.code) later.1 here.0))
  ]
  | inr early ↦ elim k [
    | inl there ↦ absurd (no_first_fault early.0 other.code (subst (λ t. FirstLineFault t other.code) early.1 there.0))
    | inr later ↦
        let version : early.0 ≡ later.0 = same_version early.0 later.0 (sym early.1 ∙ later.1) in
        one_fault_from (of_version early.0) 2 texts fault other early.2 (subst (λ v. FaultFrom (of_version v) 2 texts other) (sym version) later.2)
  ]
]

pub one_fault : AtMostOneFault
one_fault bytes fault other h k = one_bytes_fault FaultOfLines bytes fault other (λ texts a b. one_fault_of_lines texts fault other a b) h k
