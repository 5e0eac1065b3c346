-- Bytes are one node file, or have one first fault as one.
use Rattle.hn_base.proofs.Names.{◌≡◌, ◌≢◌, ℕ, List, [], ◌∷◌, map, codes, Err, inl, inr, refl, sym, ap, ◌∙◌, subst, arith, OnCause, NoCause, PlainPrefix}
use Rattle.hn_script.proofs.Names.{One, same_caps, tail_is, PrefixTextIsOfOne, AreLines, numbered, IsUnknown, FirstWordFault, Field, Number, Prefixed, priority, lifetime, of_node, ReadsFields}
use Rattle.hn_script.proofs.Names.{first_line, ScriptFault, NodeLine}
use Rattle.hn_base.specs.declared.caps.Caps.{Caps as PriorityCaps}
use Rattle.hn_script.specs.Laws.{AtMostOneNodeFile, AtMostOneNodeFault, FaultExcludesNodeFile}
use Rattle.hn_script.specs.NodeFile.{node_spelling, NodeFirstLineFault, FaultOfNodeLines}
use Rattle.hn_script.specs.declared.node_file.NodeLine.TheVariants.{Caps, External}
use Rattle.hn_script.proofs.Entries.{no_text_fault}
use Rattle.hn_script.proofs.LineWords.{a_prefix, some_caps}
use Rattle.hn_script.proofs.SameEntries.{IsTold, same_entries, no_fault_from, sole_none, sole_else, sole_text, same_fault, one_fault_from, one_bytes_fault}
use Rattle.hn_script.proofs.SameFields.{without_range, same_fields, apart}
use Rattle.hn_script.proofs.SameScripts.{plain_first, short_first}
use Rattle.hn_script.proofs.WordFaults.{fault_after}

-- ---- words spell one line

same_caps_lines : (b d : PriorityCaps) → map without_range (node_spelling (Caps b)).fields ≡ map without_range (node_spelling (Caps d)).fields → Caps b ≡ Caps d
same_caps_lines b d e =
    let m : b.m ≡ d.m = cc in
    let p : b.p ≡ d.p = cc in
    let h : b.h ≡ d.h = cc in
    let l : b.l ≡ d.l = cc in
    ap Caps (same_caps b d m p h l)

same_node_line : PrefixTextIsOfOne → IsTold of_node
same_node_line one (Caps a) (Caps b) word words h k = same_caps_lines a b (same_fields one (node_spelling (Caps a)).fields (node_spelling (Caps b)).fields words (tt, (tt, (tt, (tt, tt)))) h.2 k.2)
same_node_line one (Caps a) (External b c d) word words h k = absurd (apart (codes "caps") (codes "external") (h.1 ∙ sym k.1) refl)
same_node_line one (External a b c) (Caps d) word words h k = absurd (apart (codes "external") (codes "caps") (h.1 ∙ sym k.1) refl)
same_node_line one (External a b c) (External d e f) word words h k = let values =
    same_fields one (node_spelling (External a b c)).fields (node_spelling (External d e f)).fields words (tt, (tt, (tt, tt))) h.2 k.2 in cc

-- ---- what is wrong with the words after a first word

-- what follows a first word, in all lines that begin with it
abbrev pub NodeFollows : {A : Type 0} → List ℕ → (A → List Field) → Type 0
NodeFollows {A} word fields_of = (line : NodeLine) → (node_spelling line).first ≡ word → (a : A) × ((node_spelling line).fields ≡ fields_of a)

caps_follow : NodeFollows (codes "caps") (λ (a : PriorityCaps). priority a.m ∷ priority a.p ∷ priority a.h ∷ priority a.l ∷ [])
caps_follow (Caps a) e = (a, refl)
caps_follow (External a b c) e = absurd (apart (codes "external") (codes "caps") e refl)

external_follows : NodeFollows (codes "external") (λ (a : PlainPrefix × ℕ × ℕ). Prefixed a.0 ∷ lifetime a.1 ∷ Number 0 a.1 a.2 ∷ [])
external_follows (Caps a) e = absurd (apart (codes "caps") (codes "external") e refl)
external_follows (External a b c) e = ((a, b, c), refl)

pub caps_fault : (words : List (List ℕ)) (code : ℕ) → ReadsFields 4 (λ (a : PriorityCaps). priority a.m ∷ priority a.p ∷ priority a.h ∷ priority a.l ∷ []) words (Err code)
    → FirstWordFault of_node (codes "caps") words code
caps_fault = fault_after of_node (codes "caps") (Caps some_caps) tt refl 4 _ (λ _. refl) (λ line _. caps_follow line)

pub external_fault : (words : List (List ℕ)) (code : ℕ) → ReadsFields 3 (λ (a : PlainPrefix × ℕ × ℕ). Prefixed a.0 ∷ lifetime a.1 ∷ Number 0 a.1 a.2 ∷ []) words (Err code)
    → FirstWordFault of_node (codes "external") words code
external_fault = fault_after of_node (codes "external") (External a_prefix 0 0) tt refl 3 _ (λ _. refl) (λ line _. external_follows line)

pub unknown_node_word : (word : List ℕ) → word ≢ codes "caps" → word ≢ codes "external" → IsUnknown of_node word
unknown_node_word word no_caps no_external (Caps a) has e = no_caps (sym e)
unknown_node_word word no_caps no_external (External a b c) has e = no_external (sym e)

-- ---- one node file

pub one_node_file : PrefixTextIsOfOne → AtMostOneNodeFile
one_node_file one bytes lines others h k =
    let texts : h.texts ≡ k.texts = tail_is (sym h.parts ∙ k.parts) in
    let there = subst (λ found. AreLines of_node 2 found others) (sym texts) k.are_lines in
    h.are_lines.2 ∙ ap (numbered 2) (same_entries of_node (same_node_line one) h.are_lines.0 there.0 h.texts h.are_lines.1 there.1) ∙ sym there.2

-- ---- one first fault

no_first_fault : (code : ℕ) → ¬ NodeFirstLineFault (first_line One) code
no_first_fault code = no_text_fault (first_line One) (OnCause (first_line One ≢ first_line One) 1 NoCause) code (short_first One) (plain_first One) (λ found fault. elim fault [
  | inl wrong ↦ wrong.0 refl
  | inr never ↦ never.1
])

no_fault_of_lines : (texts : List (List ℕ)) (lines : List (ℕ × NodeLine)) (fault : ScriptFault) → AreLines of_node 2 texts lines → ¬ FaultOfNodeLines (first_line One ∷ texts) fault
no_fault_of_lines texts lines fault h found = elim found [
  | inl first ↦ no_first_fault fault.code first.0
  | inr later ↦ no_fault_from of_node 2 texts h.0 fault h.1 later.1
]

pub node_file_no_fault : FaultExcludesNodeFile
node_file_no_fault bytes fault lines found h = elim found [
  | inl large ↦ absurd (let far = large.0 in let small = h.small in omega arith)
  | inr later ↦ no_fault_of_lines h.texts lines fault h.are_lines (subst (λ texts. FaultOfNodeLines texts fault) h.parts later.1)
]

same_first_code : (text : List ℕ) (a b : ℕ) → NodeFirstLineFault text a → NodeFirstLineFault text b → a ≡ b
same_first_code text = sole_text text _ (sole_else (text ≢ first_line One) 1 NoCause sole_none)

one_fault_of_lines : (texts : List (List ℕ)) (fault other : ScriptFault) → FaultOfNodeLines texts fault → FaultOfNodeLines texts other → fault ≡ other
one_fault_of_lines [] fault other h k = same_fault fault other (h.0 ∙ sym k.0) (h.1 ∙ sym k.1)
one_fault_of_lines (text ∷ texts) fault other h k = elim h [
  | inl here ↦ elim k [
    | inl there ↦ same_fault fault other (here.1 ∙ sym there.1) (same_first_code text fault.code other.code here.0 there.0)
    | inr later ↦ absurd (no_first_fault fault.code (subst (λ t. NodeFirstLineFault t fault.code) later.0 here.0))
  ]
  | inr early ↦ elim k [
    | inl there ↦ absurd (no_first_fault other.code (subst (λ t. NodeFirstLineFault t other.code) early.0 there.0))
    | inr later ↦ one_fault_from of_node 2 texts fault other early.1 later.1
  ]
]

pub one_node_fault : AtMostOneNodeFault
one_node_fault bytes fault other h k = one_bytes_fault FaultOfNodeLines bytes fault other (λ texts a b. one_fault_of_lines texts fault other a b) h k
