-- A text in pieces, cut at the first byte of a kind: the lines of a script, the words of a line.
use Rattle.hn_base.proofs.Names.{◌≡◌, ℕ, ◌<◌, List, [], ◌∷◌, ◌++◌, length, filter, ◌+◌, refl, ap, ◌∙◌, arith, ne_eqb, AllByRecursion, Lacks}
use Rattle.hn_script.proofs.Names.{◌==◌, eq-eqb}
use Rattle.std.proofs.Common.{count_by}
use Rattle.std.proofs.lemmas.List.Splits.{slice_split-cons_yes, slice_split-cons_no, length-slice_split}
use Rattle.std.specs.List.{onto_first}
use Rattle.hn_script.specs.Texts.{pieces, without_empty_end, is_some_text, words_of, lines_of}

-- a text without such a byte is one piece
pub pieces_whole : (byte : ℕ) (text : List ℕ) → Lacks byte text → pieces byte text ≡ text ∷ []
pieces_whole byte [] h = refl
pieces_whole byte (c ∷ text) h =
    slice_split-cons_no (λ b. b == byte) c text (ne_eqb c byte h.0) ∙ ap (onto_first c) (pieces_whole byte text h.1)

-- the piece before the first such byte is the first
pub pieces_cut : (byte : ℕ) (front back : List ℕ) → Lacks byte front → pieces byte (front ++ byte ∷ back) ≡ front ∷ pieces byte back
pieces_cut byte [] back h = slice_split-cons_yes (λ b. b == byte) byte back (eq-eqb byte byte refl)
pieces_cut byte (c ∷ front) back h =
    slice_split-cons_no (λ b. b == byte) c (front ++ byte ∷ back) (ne_eqb c byte h.0) ∙ ap (onto_first c) (pieces_cut byte front back h.1)

-- some first piece
pub record SomePieces (found : List (List ℕ)) : Type 0 where
  pub first : List ℕ
  pub others : List (List ℕ)
  pub parts : found ≡ first ∷ others

counted_pieces : (found : List (List ℕ)) (n : ℕ) → length found ≡ n + 1 → SomePieces found
counted_pieces [] n h = absurd (omega arith)
counted_pieces (piece ∷ found) n h = record { first = piece; others = found; parts = refl }

pieces_some : (byte : ℕ) (text : List ℕ) → SomePieces (pieces byte text)
pieces_some byte text = counted_pieces (pieces byte text) (count_by (λ b. b == byte) text) (length-slice_split (λ b. b == byte) text)

-- ---- words

pub words_none : (text : List ℕ) → length text ≡ 0 → words_of text ≡ []
unfolding words_of
words_none [] none = refl
words_none (c ∷ text) none = absurd (omega arith)

pub words_last : (text : List ℕ) → 0 < length text → Lacks 32 text → words_of text ≡ text ∷ []
unfolding words_of
words_last [] some h = absurd (omega arith)
words_last (c ∷ text) some h = ap (filter is_some_text) (pieces_whole 32 (c ∷ text) h)

pub words_cut : (text front back : List ℕ) → 0 < length front → Lacks 32 front → text ≡ front ++ 32 ∷ back → words_of text ≡ front ∷ words_of back
unfolding words_of
words_cut text [] back some h parts = absurd (omega arith)
words_cut text (c ∷ front) back some h parts = rw parts (ap (filter is_some_text) (pieces_cut 32 (c ∷ front) back h))

pub words_gap : (text front back : List ℕ) → length front ≡ 0 → text ≡ front ++ 32 ∷ back → words_of text ≡ words_of back
unfolding words_of
words_gap text [] back none parts = rw parts (ap (filter is_some_text) (pieces_cut 32 [] back tt))
words_gap text (c ∷ front) back none parts = absurd (omega arith)

-- ---- lines

pub lines_none : (bytes : List ℕ) → length bytes ≡ 0 → lines_of bytes ≡ []
unfolding lines_of
lines_none [] none = refl
lines_none (c ∷ bytes) none = absurd (omega arith)

pub lines_last : (bytes : List ℕ) → 0 < length bytes → Lacks 10 bytes → lines_of bytes ≡ bytes ∷ []
unfolding lines_of
lines_last [] some h = absurd (omega arith)
lines_last (c ∷ bytes) some h = ap without_empty_end (pieces_whole 10 (c ∷ bytes) h)

more_lines : (front : List ℕ) (found : List (List ℕ)) → SomePieces found → without_empty_end (front ∷ found) ≡ front ∷ without_empty_end found
more_lines [] found some = rw some.parts refl
more_lines (c ∷ front) found some = refl

pub lines_cut : (bytes front back : List ℕ) → Lacks 10 front → bytes ≡ front ++ 10 ∷ back → lines_of bytes ≡ front ∷ lines_of back
unfolding lines_of
lines_cut bytes front back h parts =
    rw parts (ap without_empty_end (pieces_cut 10 front back h) ∙ more_lines front (pieces 10 back) (pieces_some 10 back))

-- ---- each word has a byte

some_texts : (found : List (List ℕ)) → AllByRecursion (λ word. 0 < length word) (filter is_some_text found)
some_texts [] = tt
some_texts ([] ∷ found) = some_texts found
some_texts ((c ∷ piece) ∷ found) = (omega arith, some_texts found)

pub words_some : (text : List ℕ) → AllByRecursion (λ word. 0 < length word) (words_of text)
unfolding words_of
words_some text = some_texts (pieces 32 text)
